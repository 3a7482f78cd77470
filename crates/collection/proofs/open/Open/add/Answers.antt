use Rattle.std.proofs.Common.{ℕ, ◌≤◌, List, drop, sym, refl, ap, ◌∙◌, subst, arith}
use Rattle.piece.specs.declared.Header.{Header}
use Rattle.piece.specs.Layouts.{Bytes}
use Rattle.piece.specs.Reading.{GoodBody, count}
use Rattle.piece.proofs.Ranges.{columns_few}
use Rattle.collection.specs.Books.{Follows}
use Rattle.collection.specs.Collected.{taking, with_piece}
use Rattle.collection.specs.Opened.{opened}
use Rattle.collection.proofs.Admitted.{SoundHeader, sound_header}
use Rattle.collection.proofs.Books.{open_room, takes}
use Rattle.collection.proofs.Closing.{scratch_length}
use Rattle.collection.proofs.open.Open.add.Goals as goal

pub returns-then-has-lt-WORK : goal.returns-then-has-lt-WORK
returns-then-has-lt-WORK g c = record {
  named = refl;
  bytes = λ k _. omega (arith, c.type_inv.piece k);
  answer = (sym (open_room c.args.self.now.book c.args.self.now.work.now), c.if-has-lt-WORK.true);
  after = refl;
}

pub columns-count-requires : goal.columns-count-requires
columns-count-requires g c =
    let xs = c.args.piece.now in
    let a = c.in_ok-admitted.ensures in
    let u : Bytes xs = λ k _. omega (arith, c.type_inv.piece k) in
    let s = sound_header g.F.Field.ops g.met.F.Field.bounds xs u a.1 in
    subst (λ (h : Header). 1 ≤ h.settings.m) (sym a.3) s.lawful.some

pub take-requires : goal.take-requires
take-requires g c =
    let K = g.F.Field.ops in
    let xs = c.args.piece.now in
    let a = c.in_ok-admitted.ensures in
    let u : Bytes xs = λ k _. omega (arith, c.type_inv.piece k) in
    let h = c.in_ok-admitted.admitted.header in
    let s : SoundHeader h = subst SoundHeader (sym a.3) (sound_header K g.met.F.Field.bounds xs u a.1) in
    let few : c.columns-count.result ≤ 4096 = rw c.columns-count.ensures (columns_few h.settings.m h.length s.lawful.some 4096 s.short) in
    record {
      room = c.if-has-lt-WORK.false;
      field = a.0;
      follows = subst (Follows c.args.self.now.book) (sym a.3) a.2;
      lawful = s.lawful;
      least = s.least;
      most = s.most;
      short = s.short;
      body = subst (λ (B : List ℕ). GoodBody K (count h) B) (sym a.4) (subst (λ (x : Header). GoodBody K (count x) (drop 10 xs)) (sym a.3) a.1.body);
      symbols = scratch_length 4096 c.columns-count.result few ∙ c.columns-count.ensures;
    }

pub returns : goal.returns
returns g c =
    let K = g.F.Field.ops in
    let xs = c.args.piece.now in
    let a = c.in_ok-admitted.ensures in
    let o = c.args.self.now in
    record {
      named = c.take.ensures.named;
      bytes = λ k _. omega (arith, c.type_inv.piece k);
      answer = takes K o.book o.work.now xs c.if-has-lt-WORK.false a.0 a.1 a.2;
      after = c.take.ensures.taken ∙ (ap (λ (B : List ℕ). with_piece (opened o) (taking K c.in_ok-admitted.admitted.header B)) a.4
          ∙ ap (λ (x : Header). with_piece (opened o) (taking K x (drop 10 xs))) a.3);
    }
