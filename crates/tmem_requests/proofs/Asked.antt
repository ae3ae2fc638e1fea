-- What a value at a key has to be for what is asked by it.
use Rattle.std.proofs.Common.{◌≡◌, ◌≢◌, ℕ, ℤ, List, codes, refl, sym, ◌∙◌}
use Rattle.serde_json.specs.Data.{Data, string}
use Rattle.tmem_forms.proofs.Laws.{NoTx, apart}
use Rattle.tmem_tree.specs.declared.tx.Tx.{Tx}
use Rattle.tmem_requests.specs.Forms.{list_at, IsInteger, AreIntegers, AreVariables, ArePairs, IsWord, IsKept}
use Rattle.tmem_requests.specs.Requests.{key_of, IsSettle, AsksBy}
use Rattle.tmem_requests.specs.declared.proposal.Proposal.{Proposal}
use Rattle.tmem_requests.specs.declared.request.RequestBody.{RequestBody}
use Rattle.tmem_requests.specs.declared.request.RequestBody.TheVariants.{Do, Try, Get, Settle, Changed, Cancel, Keep, Run, Look, State, Checkpoint, Stats}

-- nothing is asked for so
abbrev pub NoAsk : List ℕ → Data → Data → Type 0
NoAsk key body whole = (ask : RequestBody) → ¬ AsksBy ask key body whole

pub no_do : (key : List ℕ) (body whole : Data) → key ≡ codes "do" → NoTx body → NoAsk key body whole
no_do key body whole at none (Do tx) is = none tx is.body
no_do key body whole at none ask is = apart (codes "do") (key_of ask) refl (sym at ∙ is.key)

pub no_try : (key : List ℕ) (body whole : Data) → key ≡ codes "try" → NoTx body → NoAsk key body whole
no_try key body whole at none (Try tx) is = none tx is.body
no_try key body whole at none ask is = apart (codes "try") (key_of ask) refl (sym at ∙ is.key)

pub no_get : (key : List ℕ) (body whole : Data) → key ≡ codes "get" → ((vars : List ℕ) → ¬ AreVariables vars body) → NoAsk key body whole
no_get key body whole at none (Get vars) is = none vars.items is.body
no_get key body whole at none ask is = apart (codes "get") (key_of ask) refl (sym at ∙ is.key)

pub no_settle : (key : List ℕ) (body whole : Data) → key ≡ codes "settle" → ((proposal : Proposal) → ¬ IsSettle proposal body) → NoAsk key body whole
no_settle key body whole at none (Settle proposal) is = none proposal is.body
no_settle key body whole at none ask is = apart (codes "settle") (key_of ask) refl (sym at ∙ is.key)

pub no_changed : (key : List ℕ) (body whole : Data) → key ≡ codes "changed" → ((reads : List (ℕ × ℤ)) → ¬ ArePairs reads body) → NoAsk key body whole
no_changed key body whole at none (Changed reads) is = none reads.items is.body
no_changed key body whole at none ask is = apart (codes "changed") (key_of ask) refl (sym at ∙ is.key)

pub no_cancel : (key : List ℕ) (body whole : Data) → key ≡ codes "cancel" → ((id : ℤ) → ¬ IsInteger id body) → NoAsk key body whole
no_cancel key body whole at none (Cancel id) is = none id is.body
no_cancel key body whole at none ask is = apart (codes "cancel") (key_of ask) refl (sym at ∙ is.key)

pub no_keep : (key : List ℕ) (body whole : Data) → key ≡ codes "keep" → ((word : List ℕ) (tx : Tx) → ¬ IsKept word tx body) → NoAsk key body whole
no_keep key body whole at none (Keep word tx) is = none word tx is.body
no_keep key body whole at none ask is = apart (codes "keep") (key_of ask) refl (sym at ∙ is.key)

pub no_run : (key : List ℕ) (body whole : Data) → key ≡ codes "run" → ((word : List ℕ) → ¬ IsWord word body) → NoAsk key body whole
no_run key body whole at none (Run word numbers) is = none word is.body
no_run key body whole at none ask is = apart (codes "run") (key_of ask) refl (sym at ∙ is.key)

pub no_run_with : (key : List ℕ) (body whole : Data) → key ≡ codes "run" → ((numbers : List ℤ) → ¬ AreIntegers numbers (list_at (codes "numbers") whole)) → NoAsk key body whole
no_run_with key body whole at none (Run word numbers) is = none numbers.items is.numbers
no_run_with key body whole at none ask is = apart (codes "run") (key_of ask) refl (sym at ∙ is.key)

-- by a word

pub no_ask : (body whole : Data) → ((word : List ℕ) → ¬ (body ≡ string word)) → NoAsk (codes "ask") body whole
no_ask body whole none Look is = none (codes "look") is.body
no_ask body whole none State is = none (codes "state") is.body
no_ask body whole none Checkpoint is = none (codes "checkpoint") is.body
no_ask body whole none Stats is = none (codes "stats") is.body
no_ask body whole none ask is = apart (codes "ask") (key_of ask) refl is.key

same_word : (word name : List ℕ) → string word ≡ string name → word ≡ name
same_word word name same = cc

pub no_question : (word : List ℕ) → word ≢ codes "look" → word ≢ codes "state" → word ≢ codes "checkpoint" → word ≢ codes "stats" → (whole : Data) → NoAsk (codes "ask") (string word) whole
no_question word no_look no_state no_checkpoint no_stats whole Look is = no_look (same_word word _ is.body)
no_question word no_look no_state no_checkpoint no_stats whole State is = no_state (same_word word _ is.body)
no_question word no_look no_state no_checkpoint no_stats whole Checkpoint is = no_checkpoint (same_word word _ is.body)
no_question word no_look no_state no_checkpoint no_stats whole Stats is = no_stats (same_word word _ is.body)
no_question word no_look no_state no_checkpoint no_stats whole ask is = apart (codes "ask") (key_of ask) refl is.key

-- by another key

pub no_other : (key : List ℕ) (body whole : Data) → key ≢ codes "do" → key ≢ codes "try" → key ≢ codes "get" → key ≢ codes "settle" → key ≢ codes "changed" → key ≢ codes "cancel"
    → key ≢ codes "keep" → key ≢ codes "run" → key ≢ codes "ask" → NoAsk key body whole
no_other key body whole no_do no_try no_get no_settle no_changed no_cancel no_keep no_run no_ask (Do tx) is = no_do is.key
no_other key body whole no_do no_try no_get no_settle no_changed no_cancel no_keep no_run no_ask (Try tx) is = no_try is.key
no_other key body whole no_do no_try no_get no_settle no_changed no_cancel no_keep no_run no_ask (Get vars) is = no_get is.key
no_other key body whole no_do no_try no_get no_settle no_changed no_cancel no_keep no_run no_ask (Settle proposal) is = no_settle is.key
no_other key body whole no_do no_try no_get no_settle no_changed no_cancel no_keep no_run no_ask (Changed reads) is = no_changed is.key
no_other key body whole no_do no_try no_get no_settle no_changed no_cancel no_keep no_run no_ask (Cancel id) is = no_cancel is.key
no_other key body whole no_do no_try no_get no_settle no_changed no_cancel no_keep no_run no_ask (Keep word tx) is = no_keep is.key
no_other key body whole no_do no_try no_get no_settle no_changed no_cancel no_keep no_run no_ask (Run word numbers) is = no_run is.key
no_other key body whole no_do no_try no_get no_settle no_changed no_cancel no_keep no_run no_ask ask is = no_ask is.key
