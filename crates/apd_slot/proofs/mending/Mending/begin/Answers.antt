use Rattle.std.proofs.Common.{◌≡◌, [], ◌∷◌, ◌++◌, List, Bool, ap, inl, inr, refl, subst, sym, ◌∙◌}
use Rattle.std.proofs.lemmas.List.{append-nil}
use Rattle.apd_slot.specs.Mending.{AreRefused, IsTried}
use Rattle.apd_slot.proofs.MendingLemmas.{end_on, mended_by_none, mended_not, mended_on, none_of, refused_on, split_on, unmended}
use Rattle.apd_slot.proofs.mending.Mending.begin.Goals as goal

pub loop-spare-init : goal.loop-spare-init
loop-spare-init g c = (unmended g.R.Radio.model g.R.Radio.frames _ _, refl, λ down. down, refl, ([], refl, refl))

pub returns-then-try_replace-clause-mended : goal.returns-then-try_replace-clause-mended
returns-then-try_replace-clause-mended g c =
    let kept = c.loop-spare.invariant in
    let tried = kept.4 in
    mended_on g.R.Radio.model g.R.Radio.frames _ _ _ _ _ _ _ (tried.0, tried.1) c.in-Some.ensures.items kept.0 kept.1 c.try_replace.ensures.mended

pub returns-then-try_replace-clause-in_order : goal.returns-then-try_replace-clause-in_order
returns-then-try_replace-clause-in_order g c =
    let tried = c.loop-spare.invariant.4 in
    end_on _ _ _ _ (tried.0, tried.1) c.in-Some.ensures.items

-- the one that serves stands behind those that were refused
pub returns-then-try_replace-clause-begins : goal.returns-then-try_replace-clause-begins
returns-then-try_replace-clause-begins g c =
    let tried = c.loop-spare.invariant.4 in
    record {
      mended = returns-then-try_replace-clause-mended g c;
      way = inl (record {
        refused = tried.0;
        spare = c.in-Some.spare;
        order = tried.1 ∙ ap (λ (left : List g.row.R.Denot). tried.0 ++ left) c.in-Some.ensures.items;
        mid = c.loop-spare.slot;
        before = tried.2;
        serves = subst (λ (serves : Bool). IsTried g.R.Radio.model g.R.Radio.frames c.in-Some.spare serves c.loop-spare.slot c.try_replace.new.slot) c.if-try_replace.true c.try_replace.ensures.tried;
        tries = refl;
      });
    }

pub returns-clause-begins : goal.returns-clause-begins
returns-clause-begins g c =
    let kept = c.loop-spare.invariant in
    let tried = kept.4 in
    let before = none_of c.loop-spare.self.spares.items c.pop_front.new.self.items c.in_default.ensures.items c.in_default.ensures.rest in
    let all : c.args.self.now.spares.items ≡ tried.0 = tried.1 ∙ ap (λ (left : List g.row.R.Denot). tried.0 ++ left) before ∙ append-nil tried.0 in
    record {
      mended = mended_by_none g.R.Radio.model g.R.Radio.frames _ _ _ kept.0 kept.1;
      way = inr (record {
        refused = subst (λ (spares : List g.row.R.Denot). AreRefused g.R.Radio.model g.R.Radio.frames spares c.args.slot.now c.loop-spare.slot) (sym all) tried.2;
        own = record { spares = sym c.in_default.ensures.items ∙ before; tries = kept.3 };
      });
    }

pub loop-spare-preserved : goal.loop-spare-preserved
loop-spare-preserved g c =
    let kept = c.loop-spare.invariant in
    let tried = kept.4 in
    let same = c.try_replace.ensures.refused c.if-try_replace.false ∙ kept.1 in (
      mended_not g.R.Radio.model g.R.Radio.frames _ _ _ _ kept.0 c.try_replace.ensures.mended same,
      same,
      λ was. c.try_replace.ensures.up ∙ c.if-try_replace.false,
      kept.3,
      (
        tried.0 ++ c.in-Some.spare ∷ [],
        split_on _ _ tried.0 _ _ tried.1 c.in-Some.ensures.items,
        refused_on g.R.Radio.model g.R.Radio.frames tried.0 c.in-Some.spare _ _ _ tried.2
            (subst (λ (serves : Bool). IsTried g.R.Radio.model g.R.Radio.frames c.in-Some.spare serves c.loop-spare.slot c.try_replace.new.slot) c.if-try_replace.false c.try_replace.ensures.tried),
      ),
    )
