use Rattle.std.proofs.Common.{inl, sym, ◌∙◌}
use Rattle.apd_desk.proofs.Noting.{own_noted, other_noted}
use Rattle.apd_desk.proofs.notes.Notes.note.Goals as goal

pub returns-in-Some-clause-own : goal.returns-in-Some-clause-own
returns-in-Some-clause-own c = inl (own_noted c.args.bssid c.args.up c.args.self.now.noted c.in-Some.place (sym c.place_for.ensures ∙ c.in-Some.is))

pub returns-in-Some-clause-others : goal.returns-in-Some-clause-others
returns-in-Some-clause-others c = λ other apart. other_noted c.args.bssid other c.args.up c.args.self.now.noted c.in-Some.place apart (sym c.place_for.ensures ∙ c.in-Some.is)
