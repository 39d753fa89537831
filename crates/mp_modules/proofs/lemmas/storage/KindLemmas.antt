-- The kind of a module that is made of a kind.
use Rattle.std.proofs.Common.{refl}
use Rattle.mp_modules.specs.declared.kind.Kind.TheVariants.{C}
use Rattle.mp_modules.specs.storage.AnyModules.{KeepsKind, any_part_of}

pub keeps_kind : KeepsKind
unfolding any_part_of
keeps_kind C params width = refl
keeps_kind _ params width = refl
