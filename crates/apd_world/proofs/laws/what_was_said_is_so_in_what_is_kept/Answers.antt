use Rattle.apd_world.specs.History.{after}
use Rattle.apd_world.proofs.Lasting.{given_lasts, lasts, listed_as_edited, shown_sound, told_so}
use Rattle.apd_world.proofs.laws.what_was_said_is_so_in_what_is_kept.Goals as goal

pub returns-clause-said : goal.returns-clause-said
returns-clause-said c = told_so

pub returns-clause-sound : goal.returns-clause-sound
returns-clause-sound c = λ old new image keeps. (after new keeps.front, keeps.shows, shown_sound image (after new keeps.front) keeps.shows)

pub returns-clause-lasting : goal.returns-clause-lasting
returns-clause-lasting c = λ hs heard given read old new image count fact history goes keeps durable so. lasts hs heard given read old new goes image count fact history keeps durable so

pub returns-clause-promise : goal.returns-clause-promise
returns-clause-promise c = given_lasts

pub returns-clause-edits : goal.returns-clause-edits
returns-clause-edits c = listed_as_edited c.a_command_is_answered_truly.ensures
