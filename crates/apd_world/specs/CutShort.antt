-- The steps that a start, a flush or a hand-out made, where it ended in the midst: the front of its own list (own).
use Rattle.std.specs.Prelude.{◌≡◌, ◌⊎◌, ℕ, List, [], ◌∷◌, ◌++◌, take}
use Rattle.apd_world.specs.Words.{Conf, DiskModel, RadioModel, Step, Told, World}
use Rattle.apd_world.specs.HandingOut.{applies, hands, radio_hands}
use Rattle.apd_world.specs.SafelyMade.{AreSafelyMade}
use Rattle.apd_world.specs.Starting.{AreConfiguring, rounds}

-- a step, or none
abbrev pub IsAtMost : Step → List Step → Type 0
IsAtMost step steps = (steps ≡ []) ⊎ (steps ≡ step ∷ [])

-- hand-outs to the first so many radios
abbrev pub AreToRadios : List Conf → List Step → Type 0
AreToRadios confs steps = (count : ℕ) × (steps ≡ radio_hands (take count confs))

-- at the first radios, in order, so many outs are applied
abbrev pub AreAtRadios : List Conf → List Step → Type 0
AreAtRadios confs steps = (counts : List ℕ) × (steps ≡ applies confs counts)

-- the front of a hand-out
abbrev pub AreOfHanding : List Conf → List Step → Type 0
AreOfHanding confs steps = (counts : List ℕ) × (rest : List Step) × (steps ++ rest ≡ hands confs counts)

-- rounds
abbrev pub AreRoundsOf : List Step → Type 0
AreRoundsOf steps = (calls : List ℕ) × (steps ≡ rounds calls)

-- the front of a flush: rounds, and then the front of a hand-out
pub record AreOfFlush (confs : List Conf) (steps : List Step) : Type 0 where
  pub calls : List ℕ
  pub later : List Step
  pub parts : steps ≡ rounds calls ++ later
  pub handing : AreOfHanding confs later

-- the first so many interfaces are configured
abbrev pub AreFirstConfigured : List Conf → List Step → Type 0
AreFirstConfigured confs steps = (count : ℕ) × AreConfiguring (take count confs) steps

-- each interface is configured, and then comes the front of a flush
pub record AreBehindStart (confs : List Conf) (steps : List Step) : Type 0 where
  pub first : List Step
  pub later : List Step
  pub parts : steps ≡ first ++ later
  pub configuring : AreConfiguring confs first
  pub flush : AreOfFlush confs later

-- the front of a start
abbrev pub AreOfStart : List Conf → List Step → Type 0
AreOfStart confs steps = AreFirstConfigured confs steps ⊎ AreBehindStart confs steps

-- such steps were made, and no others
pub record WereMade {D R : Type 0} (disk : DiskModel D) (radio : RadioModel R) (Are : List Step → Type 0)
    (old new : World D R) : Type 0 where
  pub steps : List Step
  pub tolds : List Told
  pub are : Are steps
  pub made : AreSafelyMade disk radio steps tolds old new
