-- The seats that are made, and the notes that are written and read, keep the rule.
use Rattle.std.proofs.Common.{◌≡◌, ◌≢◌, ⊎_elim, ℕ, zero, suc, ◌+◌, ◌<◌, ◌≤◌, ◌^◌, false, true, List, [], ◌∷◌, ◌++◌, length, set, refl, sym, ap, ◌∙◌, subst, arith}
use mathlib.Core.Option.{some, some-injective, some-ne-none}
use lib.ListN.{get_elem?}
use Rattle.atomic_table.specs.Table.{Splits, Joins, opening}
use Rattle.atomic_table.proofs.Lists.{at_set}
use Rattle.tmem_effect.specs.Prefix.{IsPrefix}
use Rattle.tmem_effect.specs.declared.effect.Effect.{Effect}
use Rattle.tmem_effect.proofs.Laws.{IsPrefix-self}
use Rattle.tmem_spine.specs.declared.view.MarkedEffect.{MarkedEffect}
use Rattle.tmem_spine.specs.declared.view.Role.TheVariants.{Start, Core, Journal, Pass, Note}
use Rattle.tmem_spine.specs.declared.view.SeatView.{SeatView}
use Rattle.tmem_spine.specs.History.{count, marked_effect, longer, HasAt}
use Rattle.tmem_spine.specs.Notes.{first_view, as_core, journal_from, pass_from, gives, note, read_note, core_told, journal_told}
use Rattle.tmem_spine.specs.Rule.{History, IsPass, Fits, KeepsHistory}
use Rattle.tmem_spine.specs.Steps.{meets_core, gains, meets_journal}
use Rattle.tmem_spine.proofs.Prefixes.{prefix_empty, longer_is}
use Rattle.tmem_spine.proofs.Owning.{pass_more, pass_one}
use Rattle.tmem_spine.proofs.Keeps.{fits_as, kept_split, kept_join, IsNewMark}
use Rattle.tmem_spine.proofs.Allowed.{durable_committed}

only_first : (start id : ℕ) (v : SeatView) → get_elem? (first_view start ∷ []) id ≡ some v → (id ≡ 0) × (first_view start ≡ v)
only_first start zero v there = (refl, some-injective (first_view start) v there)
only_first start (suc id) v there = absurd (some-ne-none v (sym there))

-- the table at the start
pub opens : (start : ℕ) → start < 2 ^ 64 → KeepsHistory start (opening {S = ℕ} (start ∷ start ∷ []) [] (first_view start))
opens start fits =
    let h : History = record { committed = []; aimed = []; durable = []; core = 0; journal = 0; given = 0; has_journal = false } in
    let first : Fits start h 0 (first_view start) = fits_as Start refl (λ n. refl) refl refl (omega arith) (refl, refl, refl, refl, refl) in
    let none : start ≡ count start [] = omega arith in
    record {
      history = h;
      is_history = record { counts = ap (λ (k : ℕ). k ∷ k ∷ []) none; room = omega arith; durable = refl; aimed = refl; few = omega arith };
      each = λ id v there. let t = only_first start id v there in
          subst (λ (x : SeatView). Fits start h id x) t.1 (subst (λ (k : ℕ). Fits start h k (first_view start)) (sym t.0) first);
      apart = λ i j v w there there' rv rw m. (only_first start i v there).0 ∙ sym (only_first start j w there').0;
    }

-- the core's seat and the journal's, from the first one
pub begins : (start id : ℕ) (v : SeatView) → v.role ≡ Start → v.start ≡ start → Splits (KeepsHistory start) id v (as_core v) (journal_from v)
begins start id v role based s kept at =
    let h = kept.history in
    let is = kept.is_history in
    let f = kept.each id v at in
    let mine = f.is_start role in
    let left : SeatView = as_core v in
    let h' : History = record h { journal = length (set s.views id left); has_journal = true } in
    let none : h.aimed ≡ [] = prefix_empty h.aimed h.committed is.aimed mine.1 in
    let none' : h.durable ≡ [] = prefix_empty h.durable h.aimed is.durable none in
    kept_split start s kept h' id v left (journal_from v) at (record { counts = is.counts; room = is.room; durable = is.durable; aimed = is.aimed; few = is.few })
    (λ j u ne fu. record {
      based = fu.based;
      known = fu.known;
      seen = fu.seen;
      trimmed = fu.trimmed;
      is_start = λ r. absurd (ne ((fu.is_start r).0 ∙ sym mine.0));
      is_core = fu.is_core;
      is_journal = λ r. absurd (cc ((fu.is_journal r).1, mine.2));
      is_pass = fu.is_pass;
    })
    (fits_as Core refl (λ n. based) f.known f.seen (omega (arith, based)) (mine.0, mine.3 ∙ sym mine.1, mine.4))
    (λ r. absurd (cc r))
    (fits_as Journal refl (λ n. based) refl refl (omega arith) (refl, refl, sym none, sym none'))
    (λ r. absurd (cc r))

-- a pass from the core's seat
pub passes : (start id : ℕ) (v : SeatView) → v.role ≡ Core → v.start ≡ start → v.given < 32 → Splits (KeepsHistory start) id v (gives v) (pass_from v)
passes start id v role based few s kept at =
    let h = kept.history in
    let is = kept.is_history in
    let f = kept.each id v at in
    let mine = f.is_core role in
    let left : SeatView = gives v in
    let given : v.given ≡ h.given = mine.2 in
    let h' : History = record h { given = h.given + 1 } in
    let new : IsNewMark (set s.views id left) (pass_from v) = λ r j u there ru.
    ⊎_elim (λ (t : (j ≡ id) × (left ≡ u)). absurd (cc (ap (λ (x : SeatView). x.role) t.1 ∙ ru, role)))
    (λ (t : (j ≢ id) × (get_elem? s.views j ≡ some u)). let below : u.mark < h.given = ((kept.each j u t.1).is_pass ru).1 in λ eq. absurd (omega (arith, eq)))
    (at_set s.views id j left u there) in
    kept_split start s kept h' id v left (pass_from v) at (record { counts = is.counts; room = is.room; durable = is.durable; aimed = is.aimed; few = omega arith })
    (λ j u ne fu. record {
      based = fu.based;
      known = fu.known;
      seen = fu.seen;
      trimmed = fu.trimmed;
      is_start = λ r. absurd (ne ((fu.is_start r).0 ∙ sym mine.0));
      is_core = λ r. absurd (ne ((fu.is_core r).0 ∙ sym mine.0));
      is_journal = fu.is_journal;
      is_pass = λ r. ((fu.is_pass r).0, (let below : u.mark < h.given = (fu.is_pass r).1 in omega arith));
    })
    (fits_as Core role f.based f.known f.seen f.trimmed (mine.0, mine.1, ap (λ k. k + 1) mine.2))
    (λ r. (r, refl))
    (fits_as Pass refl (λ n. based) refl refl (omega arith) ((refl, record { ascend = λ i j d lt below. absurd (omega arith); stand = λ k d below. absurd (omega arith) }), omega arith))
    new

-- a note of what is so
noted : (start id : ℕ) (v : SeatView) (known seen : List MarkedEffect) (trimmed : ℕ) → v.start ≡ start
    → ((h : History) → IsPrefix h.durable h.committed → Fits start h id v → IsPrefix known h.committed × IsPrefix seen h.durable × (trimmed ≤ count start h.durable))
    → Splits (KeepsHistory start) id v v (note v.start known seen trimmed)
noted start id v known seen trimmed based so s kept at =
    let h = kept.history in
    let is = kept.is_history in
    let f = kept.each id v at in
    let t = so h (durable_committed start h s.words is) f in
    kept_split start s kept h id v v (note v.start known seen trimmed) at is (λ j u ne fu. fu) f (λ r. (r, refl))
    (fits_as Note refl (λ n. based) t.0 t.1 t.2 tt)
    (λ r. absurd (cc r))

pub core_notes : (start id : ℕ) (v : SeatView) → v.role ≡ Core → v.start ≡ start → Splits (KeepsHistory start) id v v (note v.start v.committed [] v.trimmed)
core_notes start id v role based = noted start id v v.committed [] v.trimmed based (λ h all f.
    (subst (λ (xs : List MarkedEffect). IsPrefix xs h.committed) (sym (f.is_core role).1) (IsPrefix-self h.committed), refl, f.trimmed))

pub journal_notes : (start id : ℕ) (v : SeatView) → v.role ≡ Journal → v.start ≡ start → Splits (KeepsHistory start) id v v (note v.start v.durable v.durable 0)
journal_notes start id v role based = noted start id v v.durable v.durable 0 based (λ h all f.
    let durable = sym (f.is_journal role).3 in
    (subst (λ (xs : List MarkedEffect). IsPrefix xs h.committed) durable all, subst (λ (xs : List MarkedEffect). IsPrefix xs h.durable) durable (IsPrefix-self h.durable), omega arith))

pub pass_notes : (start id : ℕ) (v : SeatView) → v.start ≡ start → Splits (KeepsHistory start) id v v (note v.start v.known v.seen 0)
pass_notes start id v based = noted start id v v.known v.seen 0 based (λ h all f. (f.known, f.seen, omega arith))

pub core_hears : (start id : ℕ) (v : SeatView) (other : ℕ) (w : SeatView) → v.role ≡ Core → Joins (KeepsHistory start) id v other w (core_told v w) read_note
core_hears start id v other w role =
    kept_join start id v other w (core_told v w) (λ r. (r, refl)) (λ h f t. fits_as Core role f.based t.known t.seen f.trimmed (f.is_core role))

pub journal_hears : (start id : ℕ) (v : SeatView) (other : ℕ) (w : SeatView) → v.role ≡ Journal → Joins (KeepsHistory start) id v other w (journal_told v w) read_note
journal_hears start id v other w role =
    kept_join start id v other w (journal_told v w) (λ r. (r, refl)) (λ h f t. fits_as Journal role f.based t.known t.seen t.trimmed (f.is_journal role))

-- a pass knows more, and perhaps has an effect more
pass_hears : (start id : ℕ) (v : SeatView) (other : ℕ) (w : SeatView) (known : List MarkedEffect) (own : List (ℕ × Effect)) → v.role ≡ Pass
    → ((h : History) → IsPrefix v.known h.committed → IsPrefix w.known h.committed → IsPrefix known h.committed)
    → (IsPass start v → IsPass start (record v { known = known; own = own })) → Joins (KeepsHistory start) id v other w (record v { known = known; own = own }) read_note
pass_hears start id v other w known own role so is_pass =
    kept_join start id v other w (record v { known = known; own = own }) (λ r. (r, refl)) (λ h f t. fits_as Pass role f.based (so h f.known t.known) f.seen f.trimmed (is_pass (f.is_pass role).0, (f.is_pass role).1))

pub meets_core_note : (start id : ℕ) (v : SeatView) (other : ℕ) (w : SeatView) → v.role ≡ Pass → IsPrefix v.known w.known → Joins (KeepsHistory start) id v other w (meets_core v w) read_note
meets_core_note start id v other w role more = pass_hears start id v other w w.known v.own role (λ h p q. q) (λ is. pass_more start v w.known is more)

pub gains_note : (start id : ℕ) (v : SeatView) (other : ℕ) (w : SeatView) (n : ℕ) (e : Effect) → v.role ≡ Pass → IsPrefix v.known w.known → count start v.known ≤ n
    → HasAt start w.known n (marked_effect v.mark e) → Joins (KeepsHistory start) id v other w (gains n e v w) read_note
gains_note start id v other w n e role more behind at =
    pass_hears start id v other w w.known (v.own ++ (n, e) ∷ []) role (λ h p q. q) (λ is. pass_one start v w.known n e is more behind at)

pub meets_journal_note : (start id : ℕ) (v : SeatView) (other : ℕ) (w : SeatView) → v.role ≡ Pass → IsPrefix v.known (longer v.known w.known)
    → Joins (KeepsHistory start) id v other w (meets_journal v w) read_note
meets_journal_note start id v other w role more =
    pass_hears start id v other w (longer v.known w.known) v.own role (λ h p q. (longer_is v.known w.known h.committed p q).2) (λ is. pass_more start v (longer v.known w.known) is more)
