-- What a lookup and the order check come to in numbers. Assumes nothing.
use Rattle.std.specs.Prelude.{[], Result, ⊤}
use Rattle.access.specs.Lookup as lookup
use Rattle.access.specs.Verify as verify
use Rattle.sparrowpivot.specs.Told.{Told, told, eight}
use Rattle.access.specs.declared.Error.{Error as LookupError}
use Rattle.access.specs.declared.Found.{Found}
use Rattle.access.specs.declared.verify.Error.{Error as VerifyError}

abbrev pub tell_found : Result Found LookupError → Told
tell_found f = told (lookup.number_of f) (eight (lookup.carried_of f)) []

abbrev pub tell_verified : Result ⊤ VerifyError → Told
tell_verified v = told (verify.number_of v) (eight (verify.carried_of v)) []
