use Rattle.std.proofs.Common.{true≢false}
use Rattle.pie_cut.proofs.Names.{core_of, refl, snapshot_of, sym, ◌∙◌, ◌≡◌}
use Rattle.pie_cut.proofs.JoinedFacts.{snapshot-is}
use Rattle.pie_cut.proofs.snapshot_equality.unlike_record.Goals as goal

pub returns-then-not-is_same_state-clause-unlike : goal.returns-then-not-is_same_state-clause-unlike
returns-then-not-is_same_state-clause-unlike c = λ opens same.
    let one = c.snapshot-one.ensures in
    let other = c.snapshot-other.ensures in
    let equal : c.snapshot-one.result ≡ c.snapshot-other.result =
    snapshot-is c.args.end.now c.snapshot-one.result one.same one.packets one.bytes
    ∙ same
    ∙ sym (snapshot-is c.args.core.now c.snapshot-other.result other.same other.packets other.bytes) in
    true≢false (sym (c.is_same_state.ensures.other opens equal) ∙ c.if-not-is_same_state.true)

pub returns-in-Some-clause-unlike : goal.returns-in-Some-clause-unlike
returns-in-Some-clause-unlike c =
    let one = c.snapshot-one.ensures in
    let other = c.snapshot-other.ensures in
    let both = c.is_same_state.ensures.same c.if-not-is_same_state.false in (
      both.0,
      sym (snapshot-is c.args.end.now c.snapshot-one.result one.same one.packets one.bytes)
          ∙ both.1
          ∙ snapshot-is c.args.core.now c.snapshot-other.result other.same other.packets other.bytes,
      c.in-Some.ensures.unlike,
    )

pub returns-in-None-clause-same : goal.returns-in-None-clause-same
returns-in-None-clause-same c = λ none.
    let one = c.snapshot-one.ensures in
    let other = c.snapshot-other.ensures in
    let both = c.is_same_state.ensures.same c.if-not-is_same_state.false in
    let same : snapshot_of c.args.end.now ≡ snapshot_of c.args.core.now =
    sym (snapshot-is c.args.end.now c.snapshot-one.result one.same one.packets one.bytes)
    ∙ both.1
    ∙ snapshot-is c.args.core.now c.snapshot-other.result other.same other.packets other.bytes in
    (both.0, λ limits. λ i. core_of limits (same i) (c.in-None.ensures.same refl i))
