-- What handing out does: the steps that are made, and what they tell (own).
use Rattle.std.specs.Prelude.{◌≡◌, ◌≢◌, ◌⊎◌, ℕ, List, [], ◌∷◌, ◌++◌, map, replicate, length}
use Rattle.std.specs.List.{All}
use Rattle.apd_world.specs.Words.{Apply, Conf, Control, DiskModel, DurableCore, Hand, NoMemory, Radio, RadioModel, Recipient, Step, Told, World, held_for, ready_for}
use Rattle.apd_world.specs.SafelyMade.{AreSafelyMade}
use Rattle.apd_world.specs.WorldParts.{durable_of, queue_of}
use Rattle.apd_world.specs.WorldRun.{HasNoSlot}

-- to each radio, in order
abbrev pub radio_hands : List Conf → List Step
radio_hands confs = map (λ conf. Hand (Radio conf.bssid)) confs

-- at each radio, in order, so many outs are applied
abbrev pub applies : List Conf → List ℕ → List Step
applies (conf ∷ confs) (count ∷ counts) = replicate count (Apply conf.bssid) ++ applies confs counts
applies confs counts = []

-- to each radio, at which each out is applied, and last of all to control
abbrev pub hands : List Conf → List ℕ → List Step
hands confs counts = (radio_hands confs ++ applies confs counts) ++ Hand Control ∷ []

-- for whom a step hands out or applies
abbrev pub recipient_of : Step → Recipient
recipient_of (Hand r) = r
recipient_of (Apply b) = Radio b
recipient_of step = Control

-- whether a step hands out, or applies what was handed out
abbrev pub IsHanding : Step → Type 0
IsHanding (Hand r) = Unit {0}
IsHanding (Apply b) = Unit {0}
IsHanding step = ⊥

-- whether that goes to a radio
abbrev pub IsForRadio : Step → Type 0
IsForRadio (Hand (Radio b)) = Unit {0}
IsForRadio (Apply b) = Unit {0}
IsForRadio step = ⊥

-- nothing of a durable core changes but which outs it holds
abbrev pub OnlyHands : {D : Type 0} → DurableCore D → DurableCore D → Type 0
OnlyHands old new = new ≡ record old { core = record old.core { held = new.core.held } }

-- control was given nothing: each reply is still held for it
abbrev pub HoldsReplies : {D : Type 0} → DurableCore D → DurableCore D → Type 0
HoldsReplies old new = held_for Control new.core ≡ held_for Control old.core

-- a recipient was given all that is settled for it; a radio without a slot is given nothing
abbrev pub IsGiven : {D R : Type 0} → Recipient → World D R → Type 0
IsGiven (Radio b) w = HasNoSlot b w ⊎ (ready_for (Radio b) (durable_of w).core ≡ [])
IsGiven Control w = ready_for Control (durable_of w).core ≡ []

module _ {D R : Type 0} (disk : DiskModel D) (radio : RadioModel R) where
  -- After these first steps what is settled is handed out, to each radio, where each out is applied, and then to control.
  -- The answers are what these last steps told, each with its recipient, and none met want of memory; no queue of a
  -- configured interface has an out, and each recipient was given all that is settled for it.
  pub record IsHandedOut (first : List Step) (answers : List (Recipient × Told)) (old new : World D R) : Type 0 where
    pub counts : List ℕ
    pub tolds : List Told
    pub made : AreSafelyMade disk radio
        (first ++ hands (durable_of old).core.confs counts)
        (tolds ++ map (λ a. a.1) answers) old new
    pub recipients : map (λ a. a.0) answers
        ≡ map recipient_of (hands (durable_of old).core.confs counts)
    pub told : All (λ a. a.1 ≢ NoMemory) answers
    pub each : length counts ≡ length (durable_of old).core.confs
    pub empty : All (λ conf. queue_of new conf.bssid ≡ []) (durable_of old).core.confs
    pub radios : All (λ conf. IsGiven (Radio conf.bssid) new) (durable_of old).core.confs
    pub control : IsGiven Control new
