-- Each step on the table keeps the rule, and tells what it is said to.
use Rattle.std.proofs.Common.{◌≡◌, ◌≢◌, ℕ, zero, suc, ◌+◌, ◌-◌, ◌%◌, ◌^◌, ◌<◌, ◌≤◌, List, [], ◌∷◌, ◌++◌, length, set, take, refl, sym, ap, ◌∙◌, subst, arith, slice_index, length-append}
use Rattle.std.proofs.lemmas.List.{length-take-le}
use mathlib.Core.Option.{none}
use Rattle.atomic_table.specs.Table.{step, keeps, Allows}
use Rattle.tmem_effect.specs.Prefix.{IsPrefix}
use Rattle.tmem_effect.proofs.Laws.{IsPrefix-self, IsPrefix-length, IsPrefix-trans}
use Rattle.tmem_spine.specs.declared.view.MarkedEffect.{MarkedEffect}
use Rattle.tmem_spine.specs.declared.view.Role.{Role}
use Rattle.tmem_spine.specs.declared.view.Role.TheVariants.{Core, Journal, Pass, Read}
use Rattle.tmem_spine.specs.declared.view.SeatView.{SeatView}
use Rattle.tmem_spine.specs.History.{count, longer}
use Rattle.tmem_spine.specs.Rule.{History, IsHistory, IsPass, Fits, KeepsHistory}
use Rattle.tmem_spine.specs.Steps.{told, Accepts, Aims, Stays, Hardens, Trims, Looks}
use Rattle.tmem_spine.proofs.Prefixes.{prefix_shorter, prefix_more, longer_is}
use Rattle.tmem_spine.proofs.Owning.{owns_more}
use Rattle.tmem_spine.proofs.Keeps.{fits_as, kept_step}

-- a seat of another role was not read
pub unread : {r q : Role} → r ≡ q → q ≢ Read → r ≢ Read
unread is other was_read = other (sym is ∙ was_read)

-- what is durable is a prefix of what is committed
pub durable_committed : (start : ℕ) (h : History) (words : List ℕ) → IsHistory start h words → IsPrefix h.durable h.committed
durable_committed start h words is = IsPrefix-trans h.durable h.aimed h.committed is.durable is.aimed

-- a load leaves the words
loaded : (start : ℕ) (h : History) (words : List ℕ) (i : ℕ) → i < 2 → IsHistory start h words → IsHistory start h (set words i (slice_index words i))
loaded start h words i below is = record { counts = again i below ∙ is.counts; room = is.room; durable = is.durable; aimed = is.aimed; few = is.few }
  where
    again : (k : ℕ) → k < 2 → set words k (slice_index words k) ≡ words
    again zero lt = ap (λ (ws : List ℕ). set ws 0 (slice_index ws 0)) is.counts ∙ sym is.counts
    again (suc zero) lt = ap (λ (ws : List ℕ). set ws 1 (slice_index ws 1)) is.counts ∙ sym is.counts
    again (suc (suc k)) lt = absurd (omega arith)

first_word : (start : ℕ) (h : History) (words : List ℕ) → IsHistory start h words → slice_index words 0 ≡ count start h.committed
first_word start h words is = ap (λ (ws : List ℕ). slice_index ws 0) is.counts

second_word : (start : ℕ) (h : History) (words : List ℕ) → IsHistory start h words → slice_index words 1 ≡ count start h.durable
second_word start h words is = ap (λ (ws : List ℕ). slice_index ws 1) is.counts

-- what the others know fits once one effect more is committed
committed_else : (start : ℕ) (h : History) (e : MarkedEffect) (j : ℕ) (u : SeatView) → h.core ≢ j → Fits start h j u → Fits start (record h { committed = h.committed ++ e ∷ [] }) j u
committed_else start h e j u other f = record {
  based = f.based;
  known = prefix_more u.known h.committed (e ∷ []) f.known;
  seen = f.seen;
  trimmed = f.trimmed;
  is_start = λ is. absurd (other (sym (f.is_start is).0));
  is_core = λ is. absurd (other (sym (f.is_core is).0));
  is_journal = f.is_journal;
  is_pass = f.is_pass;
}

pub accepts : (start slots id : ℕ) (v : SeatView) (carried : List (ℕ × ℕ)) (e : MarkedEffect) → v.role ≡ Core → count v.start v.committed + 1 < 2 ^ 64
    → Allows (KeepsHistory start) slots id (v, carried) 0 (λ n. (n + 1) % 2 ^ 64) (told (Accepts e) (step slots 0 1 0 none) (v, carried))
accepts start slots id v carried e role room s kept len at small =
    let h = kept.history in
    let is = kept.is_history in
    let f = kept.each id v at in
    let mine = f.is_core role in
    let based = f.based (unread role (λ r. absurd (cc r))) in
    let word = first_word start h s.words is in
    let same : length v.committed ≡ length h.committed = ap length mine.1 in
    let more : length (h.committed ++ e ∷ []) ≡ length h.committed + 1 = length-append h.committed (e ∷ []) in
    let fits : count start h.committed + 1 < 18446744073709551616 = omega arith in
    let h' : History = record h { committed = h.committed ++ e ∷ [] } in
    let next : (slice_index s.words 0 + 1) % 2 ^ 64 ≡ count start h'.committed = rw (word, more) (omega arith) in (
      record v { committed = v.committed ++ e ∷ [] },
      keeps,
      tt,
      kept_step start s kept h' (set s.words 0 ((slice_index s.words 0 + 1) % 2 ^ 64)) s.homes id v (record v { committed = v.committed ++ e ∷ [] }) at
          (record {
            counts = ap (λ (ws : List ℕ). set ws 0 ((slice_index s.words 0 + 1) % 2 ^ 64)) is.counts ∙ ap (λ (k : ℕ). k ∷ count start h.durable ∷ []) next;
            room = omega arith;
            durable = is.durable;
            aimed = prefix_more h.aimed h.committed (e ∷ []) is.aimed;
            few = is.few;
          })
          (λ j u ne fu. committed_else start h e j u (λ eq. ne (sym eq ∙ sym mine.0)) fu)
          (fits_as Core role f.based (prefix_more v.known h.committed (e ∷ []) f.known) f.seen f.trimmed (mine.0, ap (λ (xs : List MarkedEffect). xs ++ e ∷ []) mine.1, mine.2))
          (λ r. (r, refl)),
      (refl, (refl, word ∙ omega (arith, based))),
    )

-- what the others know fits whatever the journal aims at
aimed_else : (start : ℕ) (h : History) (xs : List MarkedEffect) (j : ℕ) (u : SeatView) → h.journal ≢ j → Fits start h j u → Fits start (record h { aimed = xs }) j u
aimed_else start h xs j u other f = record {
  based = f.based;
  known = f.known;
  seen = f.seen;
  trimmed = f.trimmed;
  is_start = f.is_start;
  is_core = f.is_core;
  is_journal = λ is. absurd (other (sym (f.is_journal is).0));
  is_pass = f.is_pass;
}

pub aims : (start slots id : ℕ) (v : SeatView) (carried : List (ℕ × ℕ)) (upto : ℕ) → v.role ≡ Journal → count v.start v.durable ≤ upto → upto ≤ count v.start v.known
    → Allows (KeepsHistory start) slots id (v, carried) 0 (λ n. n) (told (Aims upto) (step slots 0 0 0 none) (v, carried))
aims start slots id v carried upto role low high s kept len at small =
    let h = kept.history in
    let is = kept.is_history in
    let f = kept.each id v at in
    let mine = f.is_journal role in
    let xs : List MarkedEffect = take (upto - v.start) v.known in
    let h' : History = record h { aimed = xs } in
    let long : length xs ≡ upto - v.start = length-take-le (upto - v.start) v.known (omega arith) in
    let begins : IsPrefix xs v.known = ap (λ (k : ℕ). take k v.known) long in
    let within : IsPrefix xs h.committed = IsPrefix-trans xs v.known h.committed begins f.known in
    let same : length v.durable ≡ length h.durable = ap length mine.3 in
    let durable : IsPrefix h.durable xs = prefix_shorter h.durable xs h.committed (durable_committed start h s.words is) within (omega arith) in (
      record v { aimed = xs },
      keeps,
      tt,
      kept_step start s kept h' (set s.words 0 (slice_index s.words 0)) s.homes id v (record v { aimed = xs }) at
          (record { counts = (loaded start h s.words 0 (omega arith) is).counts; room = is.room; durable = durable; aimed = within; few = is.few })
          (λ j u ne fu. aimed_else start h xs j u (λ eq. ne (sym eq ∙ sym mine.0)) fu)
          (fits_as Journal role f.based f.known f.seen f.trimmed (mine.0, mine.1, refl, mine.3))
          (λ r. (r, refl)),
      (refl, (refl, subst (λ (ys : List MarkedEffect). IsPrefix ys xs) (sym mine.3) durable)),
    )

pub stays : (start slots id : ℕ) (v : SeatView) (carried : List (ℕ × ℕ)) → v.role ≡ Journal
    → Allows (KeepsHistory start) slots id (v, carried) 0 (λ n. n) (told Stays (step slots 0 0 0 none) (v, carried))
stays start slots id v carried role s kept len at small =
    let h = kept.history in
    let is = kept.is_history in
    let f = kept.each id v at in
    let mine = f.is_journal role in
    let based = f.based (unread role (λ r. absurd (cc r))) in
    let same : length v.durable ≡ length h.durable = ap length mine.3 in
    let trimmed : v.trimmed ≤ count start h.durable = f.trimmed in
    let l = longer_is v.known h.durable h.committed f.known (durable_committed start h s.words is) in (
      v,
      keeps,
      tt,
      kept_step start s kept h (set s.words 0 (slice_index s.words 0)) s.homes id v v at (loaded start h s.words 0 (omega arith) is) (λ j u ne fu. fu) f (λ r. (r, refl)),
      (refl, (refl, subst (λ (xs : List MarkedEffect). IsPrefix v.seen xs) (sym mine.3) f.seen, omega arith, rw mine.3 l.0, rw mine.3 l.1)),
    )

-- what the others know fits once what the journal aims at is durable
durable_else : (start : ℕ) (h : History) (j : ℕ) (u : SeatView) → h.journal ≢ j → IsPrefix h.durable h.aimed → Fits start h j u → Fits start (record h { durable = h.aimed }) j u
durable_else start h j u other more f =
    let longer : length h.durable ≤ length h.aimed = IsPrefix-length h.durable h.aimed more in
    let trimmed : u.trimmed ≤ count start h.durable = f.trimmed in
    record {
      based = f.based;
      known = f.known;
      seen = IsPrefix-trans u.seen h.durable h.aimed f.seen more;
      trimmed = omega arith;
      is_start = f.is_start;
      is_core = f.is_core;
      is_journal = λ is. absurd (other (sym (f.is_journal is).0));
      is_pass = f.is_pass;
    }

pub hardens : (start slots id : ℕ) (v : SeatView) (carried : List (ℕ × ℕ)) (by : ℕ) → v.role ≡ Journal → length v.durable + by ≡ length v.aimed
    → Allows (KeepsHistory start) slots id (v, carried) 1 (λ n. (n + by) % 2 ^ 64) (told Hardens (step slots 1 by 0 none) (v, carried))
hardens start slots id v carried by role sum s kept len at small =
    let h = kept.history in
    let is = kept.is_history in
    let f = kept.each id v at in
    let mine = f.is_journal role in
    let word = second_word start h s.words is in
    let aimed : length v.aimed ≡ length h.aimed = ap length mine.2 in
    let durable : length v.durable ≡ length h.durable = ap length mine.3 in
    let all : length h.aimed ≤ length h.committed = IsPrefix-length h.aimed h.committed is.aimed in
    let longer : length h.durable ≤ length h.aimed = IsPrefix-length h.durable h.aimed is.durable in
    let room : count start h.committed < 18446744073709551616 = is.room in
    let trimmed : v.trimmed ≤ count start h.durable = f.trimmed in
    let h' : History = record h { durable = h.aimed } in
    let next : (slice_index s.words 1 + by) % 2 ^ 64 ≡ count start h.aimed = rw word (omega arith) in (
      record v { durable = v.aimed },
      keeps,
      tt,
      kept_step start s kept h' (set s.words 1 ((slice_index s.words 1 + by) % 2 ^ 64)) s.homes id v (record v { durable = v.aimed }) at
          (record {
            counts = ap (λ (ws : List ℕ). set ws 1 ((slice_index s.words 1 + by) % 2 ^ 64)) is.counts ∙ ap (λ (k : ℕ). count start h.committed ∷ k ∷ []) next;
            room = is.room;
            durable = IsPrefix-self h.aimed;
            aimed = is.aimed;
            few = is.few;
          })
          (λ j u ne fu. durable_else start h j u (λ eq. ne (sym eq ∙ sym mine.0)) is.durable fu)
          (fits_as Journal role f.based f.known (IsPrefix-trans v.seen h.durable h.aimed f.seen is.durable) (omega arith) (mine.0, mine.1, mine.2, mine.2))
          (λ r. (r, refl)),
      (refl, refl),
    )

pub trims : (start slots id : ℕ) (v : SeatView) (carried : List (ℕ × ℕ)) → v.role ≡ Core
    → Allows (KeepsHistory start) slots id (v, carried) 1 (λ n. n) (told Trims (step slots 1 0 0 none) (v, carried))
trims start slots id v carried role s kept len at small =
    let h = kept.history in
    let is = kept.is_history in
    let f = kept.each id v at in
    let mine = f.is_core role in
    let based = f.based (unread role (λ r. absurd (cc r))) in
    let word = second_word start h s.words is in
    let within = durable_committed start h s.words is in
    let all : length h.durable ≤ length h.committed = IsPrefix-length h.durable h.committed within in
    let same : length v.committed ≡ length h.committed = ap length mine.1 in
    let seen : length v.seen ≤ length h.durable = IsPrefix-length v.seen h.durable f.seen in
    let less : v.trimmed ≤ count start h.durable = f.trimmed in (
      record v { trimmed = slice_index s.words 1 },
      keeps,
      tt,
      kept_step start s kept h (set s.words 1 (slice_index s.words 1)) s.homes id v (record v { trimmed = slice_index s.words 1 }) at
          (loaded start h s.words 1 (omega arith) is) (λ j u ne fu. fu)
          (fits_as Core role f.based f.known f.seen (omega arith) mine)
          (λ r. (r, refl)),
      (
        refl,
        (
          refl,
          omega arith,
          omega arith,
          omega arith,
          subst (λ (xs : List MarkedEffect). IsPrefix v.known xs) (sym mine.1) f.known,
          subst (λ (xs : List MarkedEffect). IsPrefix v.seen xs) (sym mine.1) (IsPrefix-trans v.seen h.durable h.committed f.seen within),
        ),
      ),
    )

pub looks : (start slots id : ℕ) (v : SeatView) (carried : List (ℕ × ℕ)) → v.role ≡ Pass
    → Allows (KeepsHistory start) slots id (v, carried) 1 (λ n. n) (told Looks (step slots 1 0 0 none) (v, carried))
looks start slots id v carried role s kept len at small =
    let h = kept.history in
    let is = kept.is_history in
    let f = kept.each id v at in
    let mine = f.is_pass role in
    let based = f.based (unread role (λ r. absurd (cc r))) in
    let word = second_word start h s.words is in
    let l = longer_is v.known h.durable h.committed f.known (durable_committed start h s.words is) in
    let w : SeatView = record v { seen = h.durable; known = longer v.known h.durable } in
    let is_pass : IsPass start w = (l.1, owns_more start v.mark v.known w.known v.own l.0 mine.0.1) in (
      w,
      keeps,
      tt,
      kept_step start s kept h (set s.words 1 (slice_index s.words 1)) s.homes id v w at (loaded start h s.words 1 (omega arith) is) (λ j u ne fu. fu)
          (fits_as Pass role f.based l.2 (IsPrefix-self h.durable) f.trimmed (is_pass, mine.1))
          (λ r. (r, refl)),
      (refl, (refl, word ∙ omega (arith, based), f.seen, l.0, subst (λ (k : ℕ). IsPass k w) (sym based) is_pass)),
    )
