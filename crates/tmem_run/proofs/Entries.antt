-- Entries that are played one after another.
use Rattle.std.proofs.Common.{◌≡◌, ℕ, List, [], ◌∷◌, ◌++◌, Option, refl, sym, ap, subst, ◌∙◌, append_assoc, append-nil}
use Rattle.std.specs.Io.KnownBytes.{Appends}
use Rattle.tmem_disk.specs.Disk.{DeviceView, LeavesOnly}
use Rattle.tmem_effect.specs.State.{State}
use Rattle.tmem_event.specs.declared.event.Reply.TheVariants.{Opened}
use Rattle.tmem_script.specs.Lines.{line_of}
use Rattle.tmem_script.specs.declared.script.ScriptEntry.{ScriptEntry}
use Rattle.tmem_world.specs.declared.world.World.{World}
use Rattle.tmem_world.specs.WorldModel.{Setting, WorldModel, opening}
use Rattle.tmem_journal.specs.Mended.{IsFoundAt}
use Rattle.tmem_journal.specs.Contents.{Position}
use Rattle.tmem_world.specs.Represents.{Represents, AreMeantBy, Means, KeepsSetting, RepresentsCut, setting_of, numbers_of, world_steps, held_table, world_view}
use Rattle.tmem_world.specs.Chain.{ChainHistory, IsStore}
use Rattle.tmem_world.proofs.Laws.{means_stay, setting_stays}
use Rattle.tmem_run.specs.Builtin.{builtin_program, builtin_setting}
use Rattle.tmem_run.specs.Chains.{PlaysStore}
use Rattle.tmem_run.specs.Printed.{line, AnswersEntry, Prints, PlaysEntries}
use Rattle.tmem_run.specs.Stored.{PlaysOnStore}
use Rattle.tmem_run.proofs.Laws.{Appends-then, Appends-nil}

-- one entry
pub Prints-one : (set : Setting) (e : ScriptEntry) (text : List ℕ) (m m' : WorldModel) → AnswersEntry set m e text m' → Prints set m (e ∷ []) text m'
Prints-one set e text m m' now = (m', text, [], now, (refl, refl), sym (append-nil text))

-- and one more
pub Prints-more : (set : Setting) (es : List ScriptEntry) (text : List ℕ) (e : ScriptEntry) (last : List ℕ) (m mid m' : WorldModel) → Prints set m es text mid → AnswersEntry set mid e last m' → Prints set m (es ++ e ∷ []) (text ++ last) m'
Prints-more set [] text e last m mid m' so now =
    (m', last, [], subst (λ (x : WorldModel). AnswersEntry set x e last m') so.1 now, (refl, refl), ap (λ t. t ++ last) so.0 ∙ sym (append-nil last))
Prints-more set (x ∷ es) text e last m mid m' so now =
    (so.0, so.1, so.2 ++ last, so.3, Prints-more set es so.2 e last so.0 mid m' so.4 now, ap (λ t. t ++ last) so.5 ∙ append_assoc so.1 so.2 last)

-- what was printed for one entry
pub Answers-of_one : (set : Setting) (e : ScriptEntry) (text : List ℕ) (m m' : WorldModel) → Prints set m (e ∷ []) text m' → AnswersEntry set m e text m'
Answers-of_one set e text m m' so =
    subst (λ (t : List ℕ). AnswersEntry set m e t m') (sym (so.5 ∙ ap (λ t. so.1 ++ t) so.4.0 ∙ append-nil so.1))
    (subst (λ (x : WorldModel). AnswersEntry set m e so.1 x) (sym so.4.1) so.3)

module _ {D T S : Type 0} {d t s : _} where
  -- nothing was played yet
  pub PlaysEntries-nil : (w : World D T S d t s) (before : Option (List ℕ)) → PlaysEntries w before [] w before
  PlaysEntries-nil w before program means m at premise = (m, [], (refl, refl), at, Appends-nil before)

  -- one entry more
  pub PlaysEntries-more : (w mid new : World D T S d t s) (before between after : Option (List ℕ)) (es : List ScriptEntry) (e : ScriptEntry) → KeepsSetting w mid → KeepsSetting mid new → PlaysEntries w before es mid between → PlaysEntries mid between (e ∷ []) new after → PlaysEntries w before (es ++ e ∷ []) new after
  PlaysEntries-more w mid new before between after es e kept then so now program means m at premise =
      let one = so program means m at (then.model premise) in
      let two = now program (means_stay w mid program kept means) one.0 one.3 premise in
      let answered = subst (λ (x : Setting). AnswersEntry x one.0 e two.1 two.0) (setting_stays w mid program kept) (Answers-of_one (setting_of mid program) e two.1 one.0 two.0 two.2) in
      (two.0, one.1 ++ two.1, Prints-more (setting_of w program) es one.1 e two.1 m one.0 two.0 one.2 answered, two.3, Appends-then before between after one.1 two.1 one.4 two.4)

-- A store of so many variables and log slots was opened with the builtin steps and invariants.
module _ {D T S : Type 0} {d t s : _} (w : World D T S d t s) (vars slots : ℕ) (table : T) (steps : S) (over : w.layout.vars ≡ vars) (log : w.layout.slots ≡ slots) (held : held_table w ≡ table) (has : world_steps w ≡ steps) where
  pub means_builtin : AreMeantBy s t steps table (builtin_program vars) → Means w (builtin_program vars)
  means_builtin means = subst (λ (x : S). AreMeantBy s t x (held_table w) (builtin_program vars)) (sym has) (subst (λ (x : T). AreMeantBy s t steps x (builtin_program vars)) (sym held) means)

  pub setting_builtin : s.arities steps ≡ 2 ∷ 2 ∷ 2 ∷ [] → setting_of w (builtin_program vars) ≡ builtin_setting vars slots
  setting_builtin arities =
      ap (λ (n : ℕ). record { vars = n; slots = w.layout.slots; arities = s.arities w.steps; program = builtin_program vars }) over
      ∙ ap (λ (n : ℕ). record { vars = vars; slots = n; arities = s.arities w.steps; program = builtin_program vars }) log ∙ ap (λ (ns : List ℕ). record { vars = vars; slots = slots; arities = ns; program = builtin_program vars }) (ap (λ (x : S). s.arities x) has ∙ arities)

-- and a script was played on its device
module _ {D T S : Type 0} {d t s : _} (old : DeviceView) (w new : World D T S d t s) (vars slots : ℕ) (over : (numbers_of new).vars ≡ vars) (log : (numbers_of new).slots ≡ slots) (means : Means w (builtin_program vars)) (set : setting_of w (builtin_program vars) ≡ builtin_setting vars slots) where
  pub PlaysOn-of : (count : ℕ) (position : Position) (found : State) (before between after : Option (List ℕ)) (es : List ScriptEntry) → IsFoundAt vars slots old.seen found position → Represents (builtin_program vars) w (opening found position 0) → count ≡ found.count
      → Appends before between (line (line_of (Opened count))) → PlaysEntries w between es new after → (world_view new).keeps_model → ((h : ChainHistory) → IsStore (builtin_program vars) vars slots h old → (text : List ℕ) × PlaysStore vars slots h es text old (world_view new) × Appends before after text)
      → PlaysOnStore vars slots es old (world_view new) before after
  PlaysOn-of count position found before between after es stands at is opened so premise stored =
      let it = so (builtin_program vars) means (opening found position 0) at premise in
      let first = subst (λ (n : ℕ). Appends before between (line (line_of (Opened n)))) is opened in
      record {
        found = found;
        position = position;
        stands = stands;
        end = it.0;
        played = record {
          text = it.1;
          prints = subst (λ (x : Setting). Prints x (opening found position 0) es it.1 it.0) set it.2;
          appends = Appends-then before between after (line (line_of (Opened found.count))) it.1 first it.4;
        };
        left = subst (λ (v : ℕ). LeavesOnly (world_view new) (RepresentsCut (builtin_program vars) v slots it.0)) over
            (subst (λ (k : ℕ). LeavesOnly (world_view new) (RepresentsCut (builtin_program vars) (numbers_of new).vars k it.0)) log it.3.device);
        stored = stored;
      }
