-- What the calls that make steps of a certain kind do (own).
use Rattle.std.specs.Prelude.{◌≡◌, ◌≢◌, ℕ, List, [], ◌++◌, map, length, false}
use Rattle.std.specs.List.{All}
use Rattle.apd_world.specs.Words.{Conf, DiskModel, NoMemory, RadioModel, Recipient, Step, Told, World}
use Rattle.apd_world.specs.SafelyMade.{AreSafelyMade}
use Rattle.apd_world.specs.WorldParts.{durable_of, queue_of}
use Rattle.apd_world.specs.Ending.{IsNoRefusal}
use Rattle.apd_world.specs.HandingOut.{applies, recipient_of}
use Rattle.apd_world.specs.Starting.{AreConfiguring, IsAtRest, rounds}

module _ {D R : Type 0} (disk : DiskModel D) (radio : RadioModel R) where
  -- steps that configure the interfaces
  pub record AreAccepted (confs : List Conf) (old new : World D R) : Type 0 where
    pub steps : List Step
    pub tolds : List Told
    pub configuring : AreConfiguring confs steps
    pub told : All (λ told. told ≢ NoMemory) tolds
    pub none : All IsNoRefusal tolds
    pub made : AreSafelyMade disk radio steps tolds old new

  -- rounds, after which every entry is settled, and the core has not failed
  pub record AreSettled (old new : World D R) : Type 0 where
    pub calls : List ℕ
    pub tolds : List Told
    pub none : All IsNoRefusal tolds
    pub made : AreSafelyMade disk radio (rounds calls) tolds old new
    pub settled : (durable_of new).core.unsettled ≡ []
    pub works : (durable_of new).core.failed ≡ false
    pub rests : IsAtRest (durable_of new)

  -- what they told was added to answers, each with its recipient
  pub record AreAnswered (steps : List Step) (before after : List (Recipient × Told))
      (old new : World D R) : Type 0 where
    pub more : List (Recipient × Told)
    pub all : after ≡ before ++ more
    pub recipients : map (λ a. a.0) more ≡ map recipient_of steps
    pub told : All (λ a. a.1 ≢ NoMemory) more
    pub none : All IsNoRefusal (map (λ a. a.1) more)
    pub made : AreSafelyMade disk radio steps (map (λ a. a.1) more) old new

  -- each out that waits at these interfaces was applied
  pub record AreAllApplied (confs : List Conf) (before after : List (Recipient × Told))
      (old new : World D R) : Type 0 where
    pub counts : List ℕ
    pub each : length counts ≡ length confs
    pub answered : AreAnswered (applies confs counts) before after old new
    pub empty : All (λ conf. queue_of new conf.bssid ≡ []) confs
