-- The laws of this crate's definitions that the crates above rest on.

-- what effects make of a state
pub use Rattle.tmem_effect.proofs.StateLaws.{fold-append, fold-push, count-fold, length-written, length-values-apply, length-values-fold, has_name-apply, AreRegistered-apply, AreAscending-apply, AreAscending-names-fold}
-- states that stay within the limits
pub use Rattle.tmem_effect.proofs.Staying.{StaysWithin-first, StaysWithin-last, StaysWithin-append, StaysWithin-front, StaysWithin-back, StaysWithin-push, StaysWithin-take, StaysWithin-drop, StaysWithin-prefix, StaysWithin-at, StaysWithin-each}
-- prefixes of lists
pub use Rattle.tmem_effect.proofs.PrefixLaws.{IsPrefix-append, IsPrefix-rest, IsPrefix-self, IsPrefix-length, IsPrefix-trans}
-- lists of names, with more of them and with fewer
pub use Rattle.tmem_effect.proofs.NamesLaws.{has_name-with_names, AreAscending-with_names, AreDistinct-ascending, AreChecks-nil, AreChecks-push, AreRegistered-nil, AreRegistered-push, AreRegistered-with_names}
pub use Rattle.tmem_effect.proofs.NamesRemoved.{has_name-without_name, has_name-without_names, without_names-filter, without_names-append, length-without_names, length-without_name-le, length-without_names-le, All-without_names, AreChecks-without_name, AreRegistered-without_name, AreRegistered-without_names, AreAscending-without_names, has_name-with_name, All-with_name, AreChecks-with_name, AreApart-none, apart_has, AreApart-check, AreApart-retire}
-- lists of writes
pub use Rattle.tmem_effect.proofs.WritesLaws.{is_some-value_in, AreWrites-push}
pub use Rattle.tmem_effect.proofs.NamesLaws.{AreRegistered-at_its_place, at_its_place-insert, length-with_names, room_for_next, with_names-next}
pub use Rattle.tmem_effect.proofs.NamesRemoved.{without_names-next}
pub use Rattle.tmem_effect.proofs.StateLaws.{written-next}
