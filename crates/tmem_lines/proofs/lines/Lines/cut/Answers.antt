use Rattle.std.proofs.Common.{◌≤◌, ◌<◌, ◌+◌, ℕ, drop, false, length, sym, subst, refl}
use Rattle.std.specs.Prelude.{slice_range}
use Rattle.tmem_lines.specs.Lines.{HoldsRestOf, IsUnbroken}
use Rattle.tmem_lines.specs.Views.{LinesView}
use Rattle.tmem_lines.proofs.Cutting.{found_in, none_in, cut_off, cut_short, cut_long}
use Rattle.tmem_lines.proofs.lines.Lines.cut.Goals as goal

pub returns-clause-line : goal.returns-clause-line
returns-clause-line c _ text stands =
    let inside = c.self.inside in
    let bytes = inside.bytes.items in
    let at = c.in-Some.at in
    let first = slice_range bytes inside.next (inside.next + at) in
    let new : LinesView = record { line = first; rest = drop (inside.next + at + 1) bytes; is_long = false; held = length bytes } in
    let f = found_in c.deref.result.now bytes inside.next at c.memchr.result c.memchr.ensures c.deref.ensures.value c.in-Some.is in
    let held = subst (λ (v : LinesView). HoldsRestOf v text) (sym c.self.view_is) stands in
    let short = c.is_too_long-is_long.ensures.short c.if-is_long.false in (
      cut_short inside.is_long first text new short.0 (cut_off inside.is_long (drop inside.next bytes) first (drop (inside.next + at + 1) bytes) text new f.0 f.1 refl held),
      subst (λ (n : ℕ). n ≤ 65536) (sym f.2) short.1,
    )

pub returns-then-is_long-clause-long : goal.returns-then-is_long-clause-long
returns-then-is_long-clause-long c _ text stands =
    let inside = c.self.inside in
    let bytes = inside.bytes.items in
    let at = c.in-Some.at in
    let first = slice_range bytes inside.next (inside.next + at) in
    let new : LinesView = record { line = first; rest = drop (inside.next + at + 1) bytes; is_long = false; held = length bytes } in
    let f = found_in c.deref.result.now bytes inside.next at c.memchr.result c.memchr.ensures c.deref.ensures.value c.in-Some.is in
    let held = subst (λ (v : LinesView). HoldsRestOf v text) (sym c.self.view_is) stands in
    cut_long inside.is_long first text new (λ is. subst (λ (n : ℕ). 65536 < n) (sym f.2) (c.is_too_long-is_long.ensures.long c.if-is_long.true is))
    (cut_off inside.is_long (drop inside.next bytes) first (drop (inside.next + at + 1) bytes) text new f.0 f.1 refl held)

pub forget_a_long_one-requires : goal.forget_a_long_one-requires
forget_a_long_one-requires c =
    let inside = c.self.inside in
    subst (λ (v : LinesView). IsUnbroken v.rest) c.self.view_is (none_in c.deref.result.now inside.bytes.items inside.next c.memchr.result c.memchr.ensures c.deref.ensures.value c.in_default.is)
