-- A change of one seat's view, or a seat more, keeps the rule.
use Rattle.std.proofs.Common.{◌≡◌, ◌≢◌, ◌⊎◌, inl, inr, ⊎_elim, ℕ, zero, suc, ◌<◌, ◌≤◌, List, [], ◌∷◌, ◌++◌, length, set, refl, sym, ap, ◌∙◌, subst, arith}
use mathlib.Core.Option.{Option, some, some-injective, some-ne-none}
use lib.ListN.{get_elem?}
use Rattle.atomic_table.specs.Table.{State, Joins}
use Rattle.atomic_table.proofs.Lists.{at_set, set_else}
use Rattle.tmem_effect.specs.Prefix.{IsPrefix}
use Rattle.tmem_spine.specs.declared.view.Role.{Role}
use Rattle.tmem_spine.specs.declared.view.Role.TheVariants.{Start, Core, Journal, Pass, Read}
use Rattle.tmem_spine.specs.History.{count}
use Rattle.tmem_spine.specs.declared.view.SeatView.{SeatView}
use Rattle.tmem_spine.specs.Notes.{read_note}
use Rattle.tmem_spine.specs.Rule.{History, IsHistory, IsPass, IsStart, IsCore, IsJournal, Fits, Each, Apart, KeepsHistory}

-- the view of a pass comes from one of these, which has the same mark
abbrev ComesFrom : List SeatView → ℕ → SeatView → Type 0
ComesFrom views j u = (o : SeatView) × (get_elem? views j ≡ some o) × (o.role ≡ Pass) × (o.mark ≡ u.mark)

-- the second view is of a pass only where the first is one, with the same mark
abbrev pub SameMark : SeatView → SeatView → Type 0
SameMark v w = w.role ≡ Pass → (v.role ≡ Pass) × (w.mark ≡ v.mark)

comes_from : (views : List SeatView) (id : ℕ) (v w : SeatView) → get_elem? views id ≡ some v → SameMark v w
    → (j : ℕ) (u : SeatView) → get_elem? (set views id w) j ≡ some u → u.role ≡ Pass → ComesFrom views j u
comes_from views id v w at same j u there is =
    ⊎_elim
    (λ (t : (j ≡ id) × (w ≡ u)). let was = same (ap (λ (x : SeatView). x.role) t.1 ∙ is) in
    (v, subst (λ (k : ℕ). get_elem? views k ≡ some v) (sym t.0) at, was.0, sym was.1 ∙ ap (λ (x : SeatView). x.mark) t.1))
    (λ (t : (j ≢ id) × (get_elem? views j ≡ some u)). (u, t.1, is, refl)) (at_set views id j w u there)

pub apart_set : (views : List SeatView) (id : ℕ) (v w : SeatView) → get_elem? views id ≡ some v → SameMark v w → Apart views → Apart (set views id w)
apart_set views id v w at same apart i j x y there there' rx ry mark =
    let a = comes_from views id v w at same i x there rx in
    let b = comes_from views id v w at same j y there' ry in
    apart i j a.0 b.0 a.1 b.1 a.2 b.2 (a.3 ∙ (mark ∙ sym b.3))

pub each_set : (start : ℕ) (h h' : History) (views : List SeatView) (id : ℕ) (w : SeatView) → Each start h views
    → ((j : ℕ) (u : SeatView) → j ≢ id → Fits start h j u → Fits start h' j u) → Fits start h' id w → Each start h' (set views id w)
each_set start h h' views id w each others mine j u there =
    ⊎_elim
    (λ (t : (j ≡ id) × (w ≡ u)). subst (λ (x : SeatView). Fits start h' j x) t.1 (subst (λ (k : ℕ). Fits start h' k w) (sym t.0) mine))
    (λ (t : (j ≢ id) × (get_elem? views j ≡ some u)). others j u t.0 (each j u t.1)) (at_set views id j w u there)

-- in a list with one more, a view stands where it was, or is the new one
at_end : (views : List SeatView) (w u : SeatView) (j : ℕ) → get_elem? (views ++ w ∷ []) j ≡ some u → (get_elem? views j ≡ some u) ⊎ ((j ≡ length views) × (w ≡ u))
at_end [] w u zero there = inr (refl, some-injective w u there)
at_end [] w u (suc j) there = absurd (some-ne-none u (sym there))
at_end (x ∷ views) w u zero there = inl there
at_end (x ∷ views) w u (suc j) there =
    ⊎_elim (λ t. inl t) (λ (t : (j ≡ length views) × (w ≡ u)). let n = t.0 in inr (omega arith, t.1)) (at_end views w u j there)

each_end : (start : ℕ) (h : History) (views : List SeatView) (w : SeatView) → Each start h views → Fits start h (length views) w → Each start h (views ++ w ∷ [])
each_end start h views w each mine j u there =
    ⊎_elim (λ (t : get_elem? views j ≡ some u). each j u t)
    (λ (t : (j ≡ length views) × (w ≡ u)). subst (λ (x : SeatView). Fits start h j x) t.1 (subst (λ (k : ℕ). Fits start h k w) (sym t.0) mine)) (at_end views w u j there)

-- no pass among these has the mark of that view, if it is a pass's
abbrev pub IsNewMark : List SeatView → SeatView → Type 0
IsNewMark views w = w.role ≡ Pass → (j : ℕ) (u : SeatView) → get_elem? views j ≡ some u → u.role ≡ Pass → u.mark ≢ w.mark

apart_end : (views : List SeatView) (w : SeatView) → Apart views → IsNewMark views w → Apart (views ++ w ∷ [])
apart_end views w apart new i j x y there there' rx ry mark =
    let role_of : (u : SeatView) → w ≡ u → u.role ≡ Pass → w.role ≡ Pass = λ u e r. ap (λ (v : SeatView). v.role) e ∙ r in
    ⊎_elim
    (λ (a : get_elem? views i ≡ some x).
    ⊎_elim (λ (b : get_elem? views j ≡ some y). apart i j x y a b rx ry mark)
    (λ (b : (j ≡ length views) × (w ≡ y)). absurd (new (role_of y b.1 ry) i x a rx (mark ∙ sym (ap (λ (v : SeatView). v.mark) b.1)))) (at_end views w y j there'))
    (λ (a : (i ≡ length views) × (w ≡ x)).
    ⊎_elim (λ (b : get_elem? views j ≡ some y). absurd (new (role_of x a.1 rx) j y b ry (sym mark ∙ sym (ap (λ (v : SeatView). v.mark) a.1))))
    (λ (b : (j ≡ length views) × (w ≡ y)). a.0 ∙ sym b.0) (at_end views w y j there'))
    (at_end views w x i there)

-- a step of one seat
pub kept_step : (start : ℕ) (s : State ℕ SeatView) (kept : KeepsHistory start s) (h : History) (words : List ℕ) (homes : List (Option ℕ)) (id : ℕ) (v w : SeatView)
    → get_elem? s.views id ≡ some v → IsHistory start h words → ((j : ℕ) (u : SeatView) → j ≢ id → Fits start kept.history j u → Fits start h j u)
    → Fits start h id w → SameMark v w → KeepsHistory start record { words = words; homes = homes; views = set s.views id w }
kept_step start s kept h words homes id v w at is others mine same = record {
  history = h;
  is_history = is;
  each = each_set start kept.history h s.views id w kept.each others mine;
  apart = apart_set s.views id v w at same kept.apart;
}

-- a seat is cut in two
pub kept_split : (start : ℕ) (s : State ℕ SeatView) (kept : KeepsHistory start s) (h : History) (id : ℕ) (v left right : SeatView)
    → get_elem? s.views id ≡ some v → IsHistory start h s.words → ((j : ℕ) (u : SeatView) → j ≢ id → Fits start kept.history j u → Fits start h j u)
    → Fits start h id left → SameMark v left → Fits start h (length (set s.views id left)) right → IsNewMark (set s.views id left) right
    → KeepsHistory start record { words = s.words; homes = s.homes; views = set s.views id left ++ right ∷ [] }
kept_split start s kept h id v left right at is others mine same new apart = record {
  history = h;
  is_history = is;
  each = each_end start h (set s.views id left) right (each_set start kept.history h s.views id left kept.each others mine) new;
  apart = apart_end (set s.views id left) right (apart_set s.views id v left at same kept.apart) apart;
}

-- what the seat of a role sees of the history
abbrev pub SeesAs : Role → ℕ → History → ℕ → SeatView → Type 0
SeesAs Start start h id v = IsStart start h id v
SeesAs Core start h id v = IsCore h id v
SeesAs Journal start h id v = IsJournal h id v
SeesAs Pass start h id v = IsPass start v × (v.mark < h.given)
SeesAs _ start h id v = Unit {0}

-- what a seat knows is so, where what its role sees is
pub fits_as : {start : ℕ} {h : History} {id : ℕ} {v : SeatView} (role : Role) → v.role ≡ role → (v.role ≢ Read → v.start ≡ start) → IsPrefix v.known h.committed → IsPrefix v.seen h.durable → v.trimmed ≤ count start h.durable
    → SeesAs role start h id v → Fits start h id v
fits_as {start} {h} {id} {v} role of based known seen trimmed is = record {
  based = based;
  known = known;
  seen = seen;
  trimmed = trimmed;
  is_start = λ r. subst (λ x. SeesAs x start h id v) (sym of ∙ r) is;
  is_core = λ r. subst (λ x. SeesAs x start h id v) (sym of ∙ r) is;
  is_journal = λ r. subst (λ x. SeesAs x start h id v) (sym of ∙ r) is;
  is_pass = λ r. subst (λ x. SeesAs x start h id v) (sym of ∙ r) is;
}

-- a seat reads a note
pub kept_join : (start id : ℕ) (v : SeatView) (other : ℕ) (w both : SeatView) → SameMark v both
    → ((h : History) → Fits start h id v → Fits start h other w → Fits start h id both) → Joins (KeepsHistory start) id v other w both read_note
kept_join start id v other w both same fits s kept at apart there =
    let h = kept.history in
    let was : get_elem? s.views other ≡ some w = sym (set_else s.views id other both apart) ∙ there in
    let views : List SeatView = set s.views id both in
    let mine = fits h (kept.each id v at) (kept.each other w was) in
    record {
      history = h;
      is_history = kept.is_history;
      each = each_set start h h views other read_note (each_set start h h s.views id both kept.each (λ j u ne f. f) mine) (λ j u ne f. f) (fits_as Read refl (λ n. absurd (n refl)) refl refl (omega arith) tt);
      apart = apart_set views other w read_note there (λ r. absurd (cc r)) (apart_set s.views id v both at same kept.apart);
    }
