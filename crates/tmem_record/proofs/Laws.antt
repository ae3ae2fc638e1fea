-- The laws of this crate's definitions that the crates above rest on.

-- the bytes that spell numbers, values, names and batches
pub use Rattle.tmem_record.proofs.SpellingLaws.{IsBytes, take-spelled, number-spelled, length-number_bytes, length-value_bytes, length-write_bytes, same_parts, delimits_number, delimits_value, delimits_registered, delimits_all, one_spelling}
-- a spelling, as it is put into a buffer part by part, and how long records are
pub use Rattle.tmem_record.proofs.CodecWrites.{part_more, drop_further, length-record_bytes, length-records}
-- bytes that stand from an offset on
pub use Rattle.tmem_record.proofs.Standing.{length-little_bytes, length-flat, length-zero_bytes, first_part, second_part, both_parts, moved, from_whole, whole_from, one_part, one_number, one_number_at, length-values_bytes, no_values, one_value_more, between_is, blank_read, blank_reads, cut, glue}
-- what is read of a content in one piece
pub use Rattle.tmem_record.proofs.Pieces.{gate_open, gate_opened, gate_closed, gate_stays_closed, part_read}
