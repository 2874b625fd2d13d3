-- What a flush does: rounds until every entry is settled, and then handing out. And a start: each interface is
-- configured before (own).
use Rattle.std.specs.Prelude.{◌≡◌, ℕ, List, [], ◌++◌, false, ◌≢◌, map, length, take, Option, None, Some, Result, Ok}
use Rattle.std.specs.List.{flat_map, All}
use Rattle.apd_world.specs.Words.{Accept, Conf, Configure, DiskModel, DurableCore, Happening, NoMemory, QuietReason, RadioModel, Recipient, Step, Told, World}
use Rattle.apd_world.specs.Round.{round}
use Rattle.apd_world.specs.WorldParts.{durable_of}
use Rattle.apd_world.specs.Telling.{HasNoBatch, HasNoCall, HasNoReceipt}
use Rattle.apd_world.specs.HandingOut.{IsHandedOut}
use Rattle.apd_core.specs.Requests.{happening_said}

-- rounds, one after another, each of so many calls
abbrev pub rounds : List ℕ → List Step
rounds counts = flat_map round counts

-- no batch, no call and no receipt is left
pub record IsAtRest {D : Type 0} (w : DurableCore D) : Type 0 where
  pub batch : HasNoBatch w
  pub call : HasNoCall w
  pub receipt : HasNoReceipt w

-- what a step asks to be accepted
abbrev pub request_of : Step → Option (Option (Result Happening QuietReason))
request_of (Accept i m) = Some (happening_said i)
request_of step = None

-- each interface is to start with its lists, in order; at any moment, since no row is put
abbrev pub AreConfiguring : List Conf → List Step → Type 0
AreConfiguring confs steps =
    map request_of steps ≡ map (λ conf. Some (Some (Ok (Configure conf.bssid conf.accept conf.deny)))) confs

module _ {D R : Type 0} (disk : DiskModel D) (radio : RadioModel R) where
  -- After these first steps batches are committed until every entry is settled, and what is settled is handed out. The
  -- core has not failed.
  pub record IsFlushed (first : List Step) (answers : List (Recipient × Told)) (old new : World D R) : Type 0 where
    pub calls : List ℕ
    pub handed : IsHandedOut disk radio (first ++ rounds calls) answers old new
    pub settled : (durable_of new).core.unsettled ≡ []
    pub works : (durable_of new).core.failed ≡ false
    pub rests : IsAtRest (durable_of new)

  -- Each interface is configured, in order, where none met want of memory, and what that brings about is flushed.
  pub record IsStarted (answers : List (Recipient × Told)) (old new : World D R) : Type 0 where
    pub first : List Step
    pub configuring : AreConfiguring (durable_of old).core.confs first
    pub flushed : IsFlushed first answers old new
    pub accepted : All (λ told. told ≢ NoMemory) (take (length first) flushed.handed.tolds)
