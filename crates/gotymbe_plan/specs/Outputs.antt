-- How a file is written, and whether it can be read twice.
use Rattle.std.specs.Prelude.{◌≡◌, ◌≢◌, ◌⊎◌, ℕ, ◌<◌, Bool, true, false, List, ◌++◌, codes}
use Rattle.std.specs.Fmt.{decimal}
use Rattle.gotymbe_plan.specs.declared.output.Standing.{Standing}
use Rattle.gotymbe_plan.specs.declared.output.Standing.TheVariants.{Nothing, File, Other}
use Rattle.gotymbe_plan.specs.declared.output.Way.{Way}
use Rattle.gotymbe_plan.specs.declared.output.Way.TheVariants.{Beside, InPlace, Into, Refused}

-- beside its name where nothing stands there; over a file only where that is forced, and into a pipe or a device
abbrev pub way_for : Standing → Bool → Way
way_for Nothing force = Beside
way_for File true = InPlace
way_for File false = Refused
way_for Other true = Into
way_for Other false = Refused

-- a name begins with a text
abbrev pub BeginsWith : List ℕ → List ℕ → Type 0
BeginsWith start name = (rest : List ℕ) × (name ≡ start ++ rest)

-- what a name leads to is open already: it lies among what the system tells of processes, or of this one's files
abbrev pub LeadsToOpen : List ℕ → Type 0
LeadsToOpen name = BeginsWith (codes "/proc/") name ⊎ BeginsWith (codes "/dev/fd/") name

-- a file of bytes can be read twice; standard input can't
abbrev pub CanReadTwice : List ℕ → Standing → Type 0
CanReadTwice name standing = (name ≢ codes "-") × (standing ≡ File)

-- the name of a file while it is written, where so many of these names are taken: another one for each number
pub record IsNameBeside (name : List ℕ) (taken : ℕ) (beside : List ℕ) : Type 0 where
  pub first : taken ≡ 0 → beside ≡ name ++ codes ".part"
  pub further : 0 < taken → beside ≡ (name ++ codes ".part") ++ codes "." ++ decimal taken
