use Rattle.std.proofs.Common.{refl}
use Rattle.std.specs.Fmt.{HasWritten}
use Rattle.tmem_shape.proofs.Told.{as_told}
use Rattle.tmem_shape.proofs.why.ShapeFlawDisplay.fmt.Goals as goal
use Rattle.tmem_shape.proofs.why.ShapeFlawDisplay.fmt.Goals.{in-NotJson, in-NotObject, in-NotArray, in-UnknownKey, in-TooManyInvariants, in-NotWord, in-Taken, in-NameTwice, in-NoTerm, in-TooManyTerms, in-NotTerm, in-NotCoefficient, in-NotVariable, in-VariableTwice, in-NotBound, in-NoBound, in-Crossed, in-NotTrue, in-NotName, in-NamedTwice}

-- Each text is written as it stands. (There are more of them than a search goes through at once.)
pub returns-clause-writes : goal.returns-clause-writes
returns-clause-writes g c = λ plain ok.
    let told = as_told (λ bs. HasWritten g.W.Write.write_str_gives c.args.f.now bs c.write_str.new.self) c.args.self.now in
    let written = c.write_str.ensures.writes plain ok in
    elim c.match-self.branch [
      | in-NotJson w ↦ told _ c.match-self.text _ w.in-NotJson.is w.text-is refl written
      | in-NotObject w ↦ told _ c.match-self.text _ w.in-NotObject.is w.text-is refl written
      | in-NotArray w ↦ told _ c.match-self.text _ w.in-NotArray.is w.text-is refl written
      | in-UnknownKey w ↦ told _ c.match-self.text _ w.in-UnknownKey.is w.text-is refl written
      | in-TooManyInvariants w ↦ told _ c.match-self.text _ w.in-TooManyInvariants.is w.text-is refl written
      | in-NotWord w ↦ told _ c.match-self.text _ w.in-NotWord.is w.text-is refl written
      | in-Taken w ↦ told _ c.match-self.text _ w.in-Taken.is w.text-is refl written
      | in-NameTwice w ↦ told _ c.match-self.text _ w.in-NameTwice.is w.text-is refl written
      | in-NoTerm w ↦ told _ c.match-self.text _ w.in-NoTerm.is w.text-is refl written
      | in-TooManyTerms w ↦ told _ c.match-self.text _ w.in-TooManyTerms.is w.text-is refl written
      | in-NotTerm w ↦ told _ c.match-self.text _ w.in-NotTerm.is w.text-is refl written
      | in-NotCoefficient w ↦ told _ c.match-self.text _ w.in-NotCoefficient.is w.text-is refl written
      | in-NotVariable w ↦ told _ c.match-self.text _ w.in-NotVariable.is w.text-is refl written
      | in-VariableTwice w ↦ told _ c.match-self.text _ w.in-VariableTwice.is w.text-is refl written
      | in-NotBound w ↦ told _ c.match-self.text _ w.in-NotBound.is w.text-is refl written
      | in-NoBound w ↦ told _ c.match-self.text _ w.in-NoBound.is w.text-is refl written
      | in-Crossed w ↦ told _ c.match-self.text _ w.in-Crossed.is w.text-is refl written
      | in-NotTrue w ↦ told _ c.match-self.text _ w.in-NotTrue.is w.text-is refl written
      | in-NotName w ↦ told _ c.match-self.text _ w.in-NotName.is w.text-is refl written
      | in-NamedTwice w ↦ told _ c.match-self.text _ w.in-NamedTwice.is w.text-is refl written
    ]
