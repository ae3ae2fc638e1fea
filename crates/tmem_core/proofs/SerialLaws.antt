-- The laws of serial orders.
use Rattle.std.proofs.Common.{◌≡◌, ◌+◌, List, [], ◌∷◌, ◌++◌, length, refl, sym, ap, ◌∙◌, arith, append-nil, append_assoc, length-append}
use Rattle.tmem_effect.specs.State.{State, apply, fold}
use Rattle.tmem_effect.specs.declared.effect.Effect.{Effect}
use Rattle.tmem_effect.proofs.Laws.{fold-append, count-fold, length-values-fold}
use Rattle.tmem_tree.specs.declared.tx.Tx.{Tx}
use Rattle.tmem_tree.specs.declared.settled.Settled.{Settled}
use Rattle.tmem_tree.specs.declared.settled.Settled.TheVariants.{Committed}
use Rattle.tmem_core.specs.Program.{Program}
use Rattle.tmem_core.specs.Verdict.{verdict, effect_of, committed, committed_of, state_after, serial_state, serial_effects, IsCommitted, AreCommitted}

committed-one : (v : Settled) (e : Effect) → IsCommitted v → committed v e ≡ e ∷ []
committed-one (Committed number registers) e is = refl
committed-one _ e is = absurd is

module _ (p : Program) where
  -- a committed plan adds its run's effect
  pub committed_of-one : (s : State) (tx : Tx) → IsCommitted (verdict p tx s) → committed_of p tx s ≡ effect_of p tx s ∷ []
  committed_of-one s tx is = committed-one (verdict p tx s) (effect_of p tx s) is

  -- so it applies its run's effect
  pub state_after-committed : (s : State) (tx : Tx) → IsCommitted (verdict p tx s) → state_after p s tx ≡ apply s (effect_of p tx s)
  state_after-committed s tx is = ap (fold s) (committed_of-one s tx is)

  -- one plan more
  pub serial_state-push : (s : State) (txs : List Tx) (tx : Tx) → serial_state p s (txs ++ tx ∷ []) ≡ state_after p (serial_state p s txs) tx
  serial_state-push s [] tx = refl
  serial_state-push s (t ∷ txs) tx = serial_state-push (state_after p s t) txs tx

  -- plans after plans
  pub serial_state-append : (s : State) (txs more : List Tx) → serial_state p s (txs ++ more) ≡ serial_state p (serial_state p s txs) more
  serial_state-append s [] more = refl
  serial_state-append s (t ∷ txs) more = serial_state-append (state_after p s t) txs more

  -- the state is the fold of the effects that were committed
  pub serial_state-fold : (s : State) (txs : List Tx) → serial_state p s txs ≡ fold s (serial_effects p s txs)
  serial_state-fold s [] = refl
  serial_state-fold s (t ∷ txs) =
      serial_state-fold (state_after p s t) txs ∙ sym (fold-append s (committed_of p t s) (serial_effects p (state_after p s t) txs))

  pub serial_effects-push : (s : State) (txs : List Tx) (tx : Tx) → serial_effects p s (txs ++ tx ∷ []) ≡ serial_effects p s txs ++ committed_of p tx (serial_state p s txs)
  serial_effects-push s [] tx = append-nil (committed_of p tx s)
  serial_effects-push s (t ∷ txs) tx =
      ap (λ es. committed_of p t s ++ es) (serial_effects-push (state_after p s t) txs tx)
      ∙ sym (append_assoc (committed_of p t s) (serial_effects p (state_after p s t) txs) (committed_of p tx (serial_state p s (t ∷ txs))))

  -- each committed effect counts one
  pub count-serial : (s : State) (txs : List Tx) → (serial_state p s txs).count ≡ s.count + length (serial_effects p s txs)
  count-serial s txs = ap (λ (x : State). x.count) (serial_state-fold s txs) ∙ count-fold s (serial_effects p s txs)

  -- as many as plans, where each is committed
  pub length-serial_effects : (s : State) (txs : List Tx) → AreCommitted p s txs → length (serial_effects p s txs) ≡ length txs
  length-serial_effects s [] are = refl
  length-serial_effects s (t ∷ txs) are =
      omega (arith, ap length (committed_of-one s t are.0), length-append (committed_of p t s) (serial_effects p (state_after p s t) txs), length-serial_effects (state_after p s t) txs are.1)

  pub count-committed : (s : State) (txs : List Tx) → AreCommitted p s txs → (serial_state p s txs).count ≡ s.count + length txs
  count-committed s txs are = omega (arith, count-serial s txs, length-serial_effects s txs are)

  pub AreCommitted-push : (s : State) (txs : List Tx) (tx : Tx) → AreCommitted p s txs → IsCommitted (verdict p tx (serial_state p s txs)) → AreCommitted p s (txs ++ tx ∷ [])
  AreCommitted-push s [] tx are is = (is, tt)
  AreCommitted-push s (t ∷ txs) tx are is = (are.0, AreCommitted-push (state_after p s t) txs tx are.1 is)

  -- no plan makes a variable
  pub length-values-serial : (s : State) (txs : List Tx) → length (serial_state p s txs).values ≡ length s.values
  length-values-serial s txs = ap (λ (x : State). length x.values) (serial_state-fold s txs) ∙ length-values-fold s (serial_effects p s txs)
