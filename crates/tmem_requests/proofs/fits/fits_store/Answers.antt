use Rattle.std.proofs.Common.{rules}
use Rattle.tmem_requests.proofs.fits.fits_store.Goals as goal

pub returns-in-Do : goal.returns-in-Do
returns-in-Do c = search rules

pub returns-in-Get : goal.returns-in-Get
returns-in-Get c = search rules

pub returns-in-Changed : goal.returns-in-Changed
returns-in-Changed c = search rules

pub returns-in-Settle : goal.returns-in-Settle
returns-in-Settle c = search rules
