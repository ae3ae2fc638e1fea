use Rattle.std.proofs.Common.{◌≡◌, ◌≤◌, length, take}
use Rattle.tmem_answers.specs.Answers.{without_last_zeros}
use Rattle.tmem_answers.proofs.line.without_last_zeros.Given as goal

abbrev pub invariant-zeros : goal.invariant-zeros
invariant-zeros l = record {
  within : l.len ≤ length l.numbers;
  same : without_last_zeros (take l.len l.numbers) ≡ without_last_zeros l.numbers;
}

abbrev pub decreases-zeros : goal.decreases-zeros
decreases-zeros l = l.len
