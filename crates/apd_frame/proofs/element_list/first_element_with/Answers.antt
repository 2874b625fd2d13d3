use Rattle.std.proofs.Common.{◌==◌, rules, tests}
use Rattle.std.proofs.lemmas.Iterator.Consumers.{YieldsList-from_first}
use Rattle.std.proofs.lemmas.Iterator.Search.{find_from_yields_List}
use Rattle.apd_frame.specs.Contents.{element}
use Rattle.apd_frame.specs.Elements.{elements_of}
use Rattle.apd_frame.proofs.element_list.first_element_with.Goals as goal

pub returns : goal.returns
returns c =
    find_from_yields_List (λ e. e.0 == c.args.id) _ _ _ c.find.ensures.ran
    (YieldsList-from_first element (λ rest. rest) (elements_of c.args.bytes.now) c.elements.ensures.computed)
    (λ x b q k. search (rules, tests))
