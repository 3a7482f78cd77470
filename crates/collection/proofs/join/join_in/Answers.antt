use Rattle.std.proofs.Common.{◌≡◌, ℕ, List, length, Err, sym, refl, ap, ◌∙◌, subst, ap₂}
use Rattle.collection.specs.Closing.{Closes}
use Rattle.collection.specs.Collected.{Collected}
use Rattle.collection.specs.HandingOver.{RefusesHandOver}
use Rattle.collection.specs.Joining.{Feeds, Joins, bytes_in, fed}
use Rattle.collection.specs.Opened.{opened}
use Rattle.collection.proofs.Feeding.{bytes_many}
use Rattle.collection.proofs.join.join_in.Goals as goal

pub returns-in-Err : goal.returns-in-Err
returns-in-Err g c =
    let all : List (List ℕ) = bytes_in c.args.pieces.now in
    let room : (opened c.start-collection.result).room ≡ length c.args.work.now = ap (λ (C : Collected). C.room) c.start-collection.ensures.fresh in
    subst (λ (r : ℕ). Joins g.F.Field.ops r all c.args.job.now c.args.job.now (Err c.in-Err.fault)) room (c.in-Err.ensures.fed c.args.job.now)

pub returns-in-Err-can_hand_over : goal.returns-in-Err-can_hand_over
returns-in-Err-can_hand_over g c =
    let K = g.F.Field.ops in
    let all : List (List ℕ) = bytes_in c.args.pieces.now in
    let n = bytes_many c.args.pieces.now in
    let room : (opened c.start-collection.result).room ≡ length c.args.work.now = ap (λ (C : Collected). C.room) c.start-collection.ensures.fresh in
    let done = c.in_default.ensures.fed in
    let same : opened c.feed.new.collection ≡ fed K (length c.args.work.now) all (length c.args.pieces.now) = done.1 ∙ ap₂ (λ (r k : ℕ). fed K r all k) room n in (
      sym n,
      subst (Feeds K (length c.args.work.now) all) n (subst (λ (r : ℕ). Feeds K r all (length all)) room done.0),
      subst (Closes K) same done.2,
      subst (λ (C : Collected). RefusesHandOver K C (length c.args.job.now) c.in-Err-can_hand_over.fault) (c.close-closed.ensures.same ∙ same) c.in-Err-can_hand_over.ensures,
      refl,
    )
