-- THE KIND OF SHA-1, 20 bytes an id. Assumes nothing.
use Rattle.std.proofs.Common.{lit≤}
use Rattle.format.specs.Format.{id_size}
use Rattle.sha1_hash.specs.Sha1.{sha1}
use Rattle.sha1_hash.specs.Length.{length-sha1}
use Rattle.kind.specs.Kind.{Kind}

abbrev pub sha1_kind : Kind
sha1_kind = record { id = id_size; hash = sha1; answers = length-sha1; fits = lit≤ tt }
