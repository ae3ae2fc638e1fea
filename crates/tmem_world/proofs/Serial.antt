-- The serial order of committed transactions, cut at a number.
use Rattle.std.proofs.Common.{◌≡◌, ℕ, zero, suc, ◌+◌, ◌-◌, ◌≤◌, List, [], ◌∷◌, ◌++◌, length, take, drop, refl, sym, ◌∙◌, ap, arith}
use Rattle.std.proofs.lemmas.List.{take-append-drop, take-take, drop-take, drop-drop, drop_at, drop_all, drop-append-le, length-take, length-drop, length-append}
use Rattle.std.proofs.Math.Seq.{take-append_seam}
use Rattle.tmem_effect.specs.State.{State, fold}
use Rattle.tmem_effect.specs.declared.effect.Effect.{Effect}
use Rattle.tmem_tree.specs.declared.tx.Tx.{Tx}
use Rattle.tmem_core.specs.Program.{Program}
use Rattle.tmem_core.specs.Verdict.{effect_of, committed_of, state_after, serial_state, serial_effects, IsCommitted, AreCommitted, verdict}
use Rattle.tmem_effect.proofs.Laws.{fold-append}
use Rattle.tmem_core.proofs.Laws.{committed_of-one, serial_effects-push, serial_state-fold, length-serial_effects, count-committed}

module _ (program : Program) where
  pub committed-take : (k : ℕ) (s : State) (txs : List Tx) → AreCommitted program s txs → AreCommitted program s (take k txs)
  committed-take zero s txs are = tt
  committed-take (suc k) s [] are = tt
  committed-take (suc k) s (t ∷ txs) are = (are.0, committed-take k (state_after program s t) txs are.1)

  -- the count of the order cut at a number of the run
  pub count-cut : (s : State) (txs : List Tx) (n : ℕ) → AreCommitted program s txs → s.count ≤ n → n ≤ s.count + length txs → (serial_state program s (take (n - s.count) txs)).count ≡ n
  count-cut s txs n are low high =
      let k = n - s.count in
      omega (arith, low, high, count-committed program s (take k txs) (committed-take k s txs are), length-take k txs)

  effects-cons : (s : State) (t : Tx) (txs : List Tx) → IsCommitted (verdict program t s) → serial_effects program s (t ∷ txs) ≡ effect_of program t s ∷ serial_effects program (state_after program s t) txs
  effects-cons s t txs is = ap (λ (es : List Effect). es ++ serial_effects program (state_after program s t) txs) (committed_of-one program s t is)

  -- each has one effect
  effects-take : (k : ℕ) (s : State) (txs : List Tx) → AreCommitted program s txs → serial_effects program s (take k txs) ≡ take k (serial_effects program s txs)
  effects-take zero s txs are = refl
  effects-take (suc k) s [] are = refl
  effects-take (suc k) s (t ∷ txs) are =
      effects-cons s t (take k txs) are.0 ∙ ap (λ (es : List Effect). effect_of program t s ∷ es) (effects-take k (state_after program s t) txs are.1) ∙ ap (take (suc k)) (sym (effects-cons s t txs are.0))

  -- so the order cut at a number is made by the first of them
  cut-fold : (k : ℕ) (s : State) (txs : List Tx) → AreCommitted program s txs → serial_state program s (take k txs) ≡ fold s (take k (serial_effects program s txs))
  cut-fold k s txs are = serial_state-fold program s (take k txs) ∙ ap (fold s) (effects-take k s txs are)

  -- what waits, once one more was committed
  pub waiting-append : (k : ℕ) (s : State) (txs : List Tx) (tx : Tx) → AreCommitted program s txs → k ≤ length txs
      → drop k (serial_effects program s (txs ++ tx ∷ [])) ≡ drop k (serial_effects program s txs) ++ committed_of program tx (serial_state program s txs)
  waiting-append k s txs tx are le =
      let all = length-serial_effects program s txs are in
      ap (drop k) (serial_effects-push program s txs tx) ∙ drop-append-le k (serial_effects program s txs) (committed_of program tx (serial_state program s txs)) (omega (arith, all, le))

  -- nothing waits behind the last
  pub none_waits : (k : ℕ) (s : State) (txs : List Tx) → AreCommitted program s txs → drop k (serial_effects program s (take k txs)) ≡ []
  none_waits k s txs are = ap (drop k) (effects-take k s txs are) ∙ drop_all k (take k (serial_effects program s txs)) (omega (arith, length-take k (serial_effects program s txs)))

  -- What waits first are these effects: behind them the rest waits, and the order cut there is as much longer.
  pub record AreNext (s : State) (txs : List Tx) (k : ℕ) (es rest : List Effect) : Type 0 where
    pub below : k + length es ≤ length txs
    pub state : serial_state program s (take (k + length es) txs) ≡ fold (serial_state program s (take k txs)) es
    pub waits : drop (k + length es) (serial_effects program s txs) ≡ rest

  pub are_next : (s : State) (txs : List Tx) (k : ℕ) (es rest : List Effect) → AreCommitted program s txs → k ≤ length txs → drop k (serial_effects program s txs) ≡ es ++ rest → AreNext s txs k es rest
  are_next s txs k es rest are le is =
      let all = serial_effects program s txs in
      let n = k + length es in
      let first : take k (take n all) ≡ take k all = take-take k n all (omega arith) in
      let next : drop k (take n all) ≡ es = drop-take k (length es) all ∙ ap (take (length es)) is ∙ take-append_seam es rest in
      let both : take n all ≡ take k all ++ es = sym (take-append-drop k (take n all)) ∙ ap (λ (l : List Effect). l ++ drop k (take n all)) first ∙ ap (λ (l : List Effect). take k all ++ l) next in
      record {
        below = omega (arith, length-serial_effects program s txs are, length-drop k all, ap length is, length-append es rest, le);
        state = cut-fold n s txs are ∙ ap (fold s) both ∙ fold-append s (take k all) es ∙ ap (λ (x : State). fold x es) (sym (cut-fold k s txs are));
        waits = sym (drop-drop (length es) k all) ∙ ap (drop (length es)) is ∙ drop_at es rest (length es) refl;
      }
