-- How many bytes block 0 has.
use Rattle.std.proofs.Common.{◌≡◌, ◌+◌, ℕ, List, ◌∷◌, ◌++◌, length, replicate, codes, refl, arith}
use Rattle.std.proofs.lemmas.List.{length-replicate}
use Rattle.byteorder.specs.Endian.{little_bytes}
use Rattle.tmem_record.proofs.Laws.{length-little_bytes}
use Rattle.tmem_state.specs.Versions.{version_number}
use Rattle.tmem_state.specs.declared.version.Version.{Version}
use Rattle.tmem_image.proofs.Laws.{joined}
use Rattle.tmem_journal.specs.BlockSpelling.{block_body}

after_one : (x : ℕ) (b : List ℕ) (n : ℕ) → length b ≡ n → length (x ∷ b) ≡ 1 + n
after_one x b n is = omega arith

zeros : (n : ℕ) → length (replicate {A = ℕ} n 0) ≡ n
zeros n = length-replicate n 0

pub length-block_body : (version : Version) (vars slots : ℕ) → length (block_body version vars slots) ≡ 511
unfolding block_body
length-block_body version vars slots =
    joined (codes "TMEM") behind_4 4 507 refl (after_one (version_number version) behind_5 506 (joined (little_bytes 2 vars) behind_7 2 504 (length-little_bytes 2 vars) (joined (little_bytes 2 slots) (replicate 502 0) 2 502 (length-little_bytes 2 slots) (zeros 502))))
  where
    behind_7 : List ℕ
    behind_7 = little_bytes 2 slots ++ replicate 502 0

    behind_5 : List ℕ
    behind_5 = little_bytes 2 vars ++ behind_7

    behind_4 : List ℕ
    behind_4 = version_number version ∷ behind_5
