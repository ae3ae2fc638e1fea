use Rattle.std.proofs.lemmas.Grind.{common_steps}
use Rattle.std.proofs.Common.{arith, ◌≡◌, ◌==◌, ℕ, List, length, rules, subst, sym, ap, ◌∙◌, true, vec_len}
use Rattle.std.specs.Io.KnownBytes.{Appends}
use Rattle.std.proofs.lemmas.Bool.{false≢true}
use Rattle.tmem_explain.specs.declared.flaw.Flaw.{Flaw}
use Rattle.tmem.specs.Checked.{lines_of}
use Rattle.tmem_run.proofs.Laws.{Appends-keeps}
use Rattle.tmem.proofs.check.check_text.Goals as goal

pub returns-clause-flawed : goal.returns-clause-flawed
returns-clause-flawed g c same = record {
  flawed = c.in-Ok.ensures.some (λ none.
      let long : vec_len c.in-Ok.flaws ≡ length c.in-Ok.flaws.items = search rules in
      let empty : c.is_empty.result ≡ true = c.is_empty.ensures ∙ ap (λ (n : ℕ). n == 0) (long ∙ ap length none) in
      false≢true (sym c.if-is_empty.false ∙ empty));
  flaws = c.in-Ok.flaws.items;
  told = c.in-Ok.ensures.told;
  limits = c.in-Ok.ensures.limits;
  no_json = c.in-Ok.ensures.no_json;
  printed = Appends-keeps _ _ _ _ (subst (λ (fs : List Flaw). Appends (g.W.Write.contents c.args.out.now) (g.W.Write.contents c.print_flaws.new.out) (lines_of fs)) c.deref.ensures.value c.in_ok-print_flaws.ensures.lines) c.flush_output.ensures.kept;
}

pub returns-then-is_empty-clause-fine : goal.returns-then-is_empty-clause-fine
returns-then-is_empty-clause-fine g c = grind (arith, common_steps)
