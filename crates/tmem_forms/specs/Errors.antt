-- Why a value was not read.
use Rattle.tmem_forms.specs.declared.error.FormError.{FormError}
use Rattle.tmem_forms.specs.declared.error.FormError.TheVariants.{Memory, NoForm}

-- where nothing but the value is at fault, this holds
abbrev pub Refuses : FormError → Type 0 → Type 0
Refuses (Memory e) P = Unit {0}
Refuses NoForm P = P
