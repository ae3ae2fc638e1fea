-- What the user is told of a text that is not a shape.
use Rattle.std.specs.Prelude.{ℕ, List, ◌++◌, codes}
use Rattle.std.specs.Fmt.{decimal}
use Rattle.tmem_shape.specs.Keys.{key_text}
use Rattle.tmem_shape.specs.declared.why.ShapeFlaw.{ShapeFlaw}
use Rattle.tmem_shape.specs.declared.why.ShapeFlaw.TheVariants as why

-- what is wrong, in words
abbrev pub shape_why_text : ShapeFlaw → List ℕ
shape_why_text why.NotJson = codes "this is not JSON (which may nest 127 levels deep)"
shape_why_text why.NotObject = codes "this is not an object"
shape_why_text why.NotArray = codes "this is not an array"
shape_why_text why.UnknownKey = codes "this key is not known"
shape_why_text (why.Missing key) = codes "there is no " ++ key_text key
shape_why_text (why.NotWithin least most) =
    codes "this is not a whole number from " ++ decimal least ++ codes " to " ++ decimal most
shape_why_text why.TooManyInvariants = codes "there are more than 64 invariants"
shape_why_text why.NotWord = codes "this is not one to sixteen letters from a to z"
shape_why_text why.Taken = codes "nonneg, ordered and sum are names of other invariants"
shape_why_text why.NameTwice = codes "an earlier invariant has this name"
shape_why_text why.NoTerm = codes "there is no term"
shape_why_text why.TooManyTerms = codes "there are more than 16 terms"
shape_why_text why.NotTerm = codes "this is neither [C,VAR] nor [C,VAR,\"nonzero\"]"
shape_why_text why.NotCoefficient = codes "this is not a whole number of 32 bits"
shape_why_text why.NotVariable = codes "this is not a variable of the store"
shape_why_text why.VariableTwice = codes "an earlier term has this variable"
shape_why_text why.NotBound = codes "this is not a whole number of 64 bits"
shape_why_text why.NoBound = codes "there is neither a least nor a most"
shape_why_text why.Crossed = codes "the least is more than the most, so no values keep this"
shape_why_text why.NotTrue = codes "this is not true; write true, or leave the key out"
shape_why_text why.NotName = codes "this name is not 1 to 32 of a to z, 0 to 9 and _, a letter first"
shape_why_text why.NamedTwice = codes "another name has this variable"
