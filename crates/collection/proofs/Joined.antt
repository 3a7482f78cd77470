-- What joining means: any m pieces of a job bring it back, and no other job is made up. Assumes nothing.
use Rattle.std.proofs.Common.{◌≡◌, ℕ, ◌^◌, ◌<◌, ◌≤◌, ◌≢◌, List, [], ◌++◌, length, get_or, take, drop, Ok, Err, Result, sym, refl, ap, ◌∙◌, subst, ap₂, arith, length-take-le}
use native.Mathlib.Decide.{ℕ_discrete}
use Rattle.std.proofs.lemmas.List.{get_or-map, get_or-take, length-map}
use Rattle.field.specs.Laws.{Ops, FieldLaws, Bounds}
use Rattle.piece.specs.declared.Header.{Header}
use Rattle.piece.specs.declared.Settings.{Settings}
use Rattle.piece.specs.declared.fault.ReadFault.{ReadFault}
use Rattle.piece.specs.declared.fault.ReadFault.TheVariants as read
use Rattle.piece.specs.Bits.{Fault, Holds, octets, packed, value_in}
use Rattle.piece.specs.Layouts.{Bytes}
use Rattle.piece.specs.Pieces.{Lawful, body, columns, header, listed, piece, value}
use Rattle.piece.specs.Reading.{Accepts, Refuses, count, header_in}
use Rattle.piece.proofs.Cuts.{piece_parts}
use Rattle.piece.proofs.Exact.{accepts_composed, back, composed_reads, value_code}
use Rattle.piece.proofs.Faults.{held_listed, held_no_fault}
use Rattle.piece.proofs.Octets.{get_d_listed, length_listed}
use Rattle.std.proofs.lemmas.Bool.{false≢true}
use Rattle.piece.proofs.Readings.{short_if_sensible}
use Rattle.collection.specs.declared.fault.AddFault.{AddFault}
use Rattle.collection.specs.declared.fault.AddFault.TheVariants as add
use Rattle.collection.specs.declared.fault.CloseFault.TheVariants as close
use Rattle.collection.specs.declared.fault.HandOverFault.TheVariants as over
use Rattle.collection.specs.declared.fault.JoinFault.{JoinFault}
use Rattle.collection.specs.declared.fault.JoinFault.TheVariants as fault
use Rattle.collection.specs.Adding.{Alike, RefusesPiece, Takes}
use Rattle.collection.specs.Collected.{Collected, For, Taken, first_of, nothing, field_numbers_of, piece_at, read_of}
use Rattle.collection.specs.HandingOver.{Fits, Handed, HasPiece}
use Rattle.collection.specs.Joining.{AnyMBringBack, Chosen, Feeds, Joins, NoJobIsMadeUp, fed}

-- no refusal of the reader applies to what it accepts
accepted_not_refused : (K : Ops) → Bounds K → (bytes : List ℕ) → Accepts K bytes → (f : ReadFault) → Refuses K bytes f → ⊥
accepted_not_refused K B bytes A (read.Short len) r = omega (arith, A.headed.long, r.1)
accepted_not_refused K B bytes A (read.Field code wants) r = r.3 (r.1 ∙ (A.headed.field ∙ sym r.2))
accepted_not_refused K B bytes A (read.Header rows m n i len) r = false≢true (sym r.6 ∙ A.header)
accepted_not_refused K B bytes A (read.Body has needs) r = r.2.2 (r.2.0 ∙ (A.body.long ∙ sym r.2.1))
accepted_not_refused K B bytes A (read.Value at) r =
    let n : ℕ = count (header_in bytes) in
    let vs : List ℕ = listed n (value_in K.width (drop 10 bytes)) in
    held_no_fault K.order K.width (drop 10 bytes) vs B.order_fits A.body.holds r.2.1.0
    (subst (λ (k : ℕ). Fault K.order K.width k (drop 10 bytes) r.2.1.0) (sym (length_listed n (value_in K.width (drop 10 bytes)))) r.2.1.2)

-- nor of the collection to what it takes
taken_not_refused : (K : Ops) → Bounds K → (C : Collected) (bytes : List ℕ) → Takes K C bytes → (f : AddFault) → RefusesPiece K C bytes f → ⊥
taken_not_refused K B C bytes T (add.Work has) r = omega (arith, T.readable.work, r.0, r.1)
taken_not_refused K B C bytes T (add.Reader f) r = accepted_not_refused K B bytes T.readable.read f r.1
taken_not_refused K B C bytes T (add.Field has) r = r.2 T.readable.field
taken_not_refused K B C bytes T (add.Full m) r = omega (arith, T.space, r.1, r.2)
taken_not_refused K B C bytes T (add.Differs first other) r =
    r.5 (subst (λ (h : Header). Alike h other) (sym r.3) (subst (Alike (first_of C)) (sym r.4) (T.alike r.1)))
taken_not_refused K B C bytes T (add.Again i) r = T.new r.5.0 r.5.1 (r.5.2 ∙ r.4)

-- that a job has a piece that was read, by its bytes
module _ {K : Ops} (L : FieldLaws K) (B : Bounds K) (S : Settings) (lawful : Lawful S) (i jn st : ℕ) (least : 1 ≤ i) (most : i ≤ S.n) (job : List ℕ) (bytes_of : Bytes job) where
  -- the symbols of a body are read back
  symbols_read : listed (columns S.m job) (value_in K.width (packed K.width (body K S job i))) ≡ body K S job i
  symbols_read =
      let w = K.width in
      let n : ℕ = columns S.m job in
      let vs : List ℕ = body K S job i in
      let ln : length vs ≡ n = length_listed n (value K S job i) in
      let holds : Holds K.order w (packed w vs) vs = record {
        codes = λ k l. subst (λ (x : ℕ). x < K.order) (sym (get_d_listed n (value K S job i) k (omega arith))) (value_code K B L S lawful i least most job bytes_of k);
        bytes_are = refl;
      } in
      sym (held_listed K.order w (packed w vs) vs B.order_fits holds ∙ ap (λ (k : ℕ). listed k (value_in w (packed w vs))) ln)

  -- the piece that is cut is read as one that the job has
  pub cut_has : jn < 2 ^ 16 → st < 2 ^ 32 → length job ≤ 4096 → HasPiece K job (read_of K (piece K S i jn st job))
  cut_has hj hs short =
      let R = back K B L S lawful i least most jn hj st hs job bytes_of short in
      let h : Header = record { settings = S; number = i; length = length job; job = jn; stamp = st } in
      let same : read_of K (piece K S i jn st job) ≡ record { header = h; symbols = body K S job i }
      = ap₂ (λ (x : Header) (b : List ℕ). record { header = x; symbols = listed (count x) (value_in K.width b) }) R.head R.body_is
      ∙ ap (λ (xs : List ℕ). record { header = h; symbols = xs }) symbols_read in
      subst (HasPiece K job) (sym same) (record { long = refl; symbols = refl })

  -- and bytes that are read as a piece that the job has are the piece
  pub has_cut : (bytes : List ℕ) → Bytes bytes → Accepts K bytes → header_in bytes ≡ record { settings = S; number = i; length = length job; job = jn; stamp = st }
      → HasPiece K job (read_of K bytes) → bytes ≡ piece K S i jn st job
  has_cut bytes u A eh has =
      let C = accepts_composed K B bytes u A in
      let R = composed_reads K B bytes C in
      let w = K.width in
      let front : Header → List ℕ = λ h. octets (header K.code h.settings h.number h.length h.job h.stamp) in
      let symbols : listed (count (header_in bytes)) (value_in w (drop 10 bytes)) ≡ body K S job i
      = has.symbols ∙ ap (λ (h : Header). body K h.settings job h.number) eh in
      C.bytes_are
      ∙ (ap (λ (h : Header). front h ++ packed w C.values) (sym R.head_read ∙ eh)
      ∙ (ap (λ (xs : List ℕ). octets (header K.code S i (length job) jn st) ++ xs) (sym R.body_read ∙ (A.body.holds.bytes_are ∙ ap (packed w) symbols))
      ∙ sym (piece_parts K S i jn st job)))

-- what was fed
module _ (K : Ops) (room : ℕ) (pieces : List (List ℕ)) (k : ℕ) (lk : k ≤ length pieces) where
  fed_many : length (fed K room pieces k).taken ≡ k
  fed_many = length-map (take k pieces) (read_of K) ∙ length-take-le k pieces lk

  fed_at : (t : ℕ) → t < k → piece_at (fed K room pieces k) t ≡ read_of K (get_or pieces t [])
  fed_at t l =
      let m = length-take-le k pieces lk in
      get_or-map (read_of K) (take k pieces) t [] nothing (omega arith) ∙ ap (read_of K) (get_or-take k pieces t [] l)

-- m pieces of one deposit with different numbers: a collection takes them all, and can then be closed
module _ {K : Ops} (L : FieldLaws K) (B : Bounds K) (room : ℕ) (pieces : List (List ℕ)) (enough : 4623 ≤ room) (S : Settings) (lawful : Lawful S) (len jn st : ℕ)
    (chosen : ℕ → ℕ) (choice : Chosen S chosen) (many : length pieces ≡ S.m)
    (read_at : (t : ℕ) → t < S.m → Accepts K (get_or pieces t []) × (header_in (get_or pieces t []) ≡ record { settings = S; number = chosen t; length = len; job = jn; stamp = st })) where
  at_head : (k : ℕ) → k ≤ S.m → (t : ℕ) → t < k → (piece_at (fed K room pieces k) t).header ≡ record { settings = S; number = chosen t; length = len; job = jn; stamp = st }
  at_head k lk t l = ap (λ (p : Taken). p.header) (fed_at K room pieces k (omega arith) t l) ∙ (read_at t (omega arith)).1

  own : For K (field_numbers_of K)
  own = record { code = refl; order = refl; width = refl }

  takes_all : (t : ℕ) → t < S.m → Takes K (fed K room pieces t) (get_or pieces t [])
  takes_all t l =
      let C : Collected = fed K room pieces t in
      let n : length C.taken ≡ t = fed_many K room pieces t (omega arith) in
      let h = (read_at t l).1 in
      record {
        readable = record { work = enough; field = own; read = (read_at t l).0 };
        space = elim (ℕ_discrete t 0) [
          | yes e ↦
              let z : (first_of C).settings.m ≡ 1 = ap (λ (x : ℕ). (first_of (fed K room pieces x)).settings.m) e in
              omega arith
          | no ne ↦
              let z : (first_of C).settings.m ≡ S.m = ap (λ (x : Header). x.settings.m) (at_head t (omega arith) 0 (omega arith)) in
              omega arith
        ];
        alike = λ some.
            let f = at_head t (omega arith) 0 (omega arith) in
            record {
              settings = ap (λ (x : Header). x.settings) f ∙ sym (ap (λ (x : Header). x.settings) h);
              length = ap (λ (x : Header). x.length) f ∙ sym (ap (λ (x : Header). x.length) h);
              job = ap (λ (x : Header). x.job) f ∙ sym (ap (λ (x : Header). x.job) h);
              stamp = ap (λ (x : Header). x.stamp) f ∙ sym (ap (λ (x : Header). x.stamp) h);
            };
        new = λ i li e.
            let ki : i < t = omega arith in
            let ne : i ≢ t = omega arith in
            choice.differ i t (omega arith) l ne (sym (ap (λ (x : Header). x.number) (at_head t (omega arith) i ki)) ∙ (e ∙ ap (λ (x : Header). x.number) h));
      }

  abbrev all : Collected
  all = fed K room pieces (length pieces)

  all_many : length all.taken ≡ S.m
  all_many = fed_many K room pieces (length pieces) (omega arith) ∙ many

  all_first : first_of all ≡ record { settings = S; number = chosen 0; length = len; job = jn; stamp = st }
  all_first = at_head (length pieces) (omega arith) 0 (omega (arith, lawful.some))

  all_piece : (t : ℕ) → t < S.m → piece_at all t ≡ read_of K (get_or pieces t [])
  all_piece t l = fed_at K room pieces (length pieces) (omega arith) t (omega arith)

  -- what can come of it: the job, or that there is none
  module _ (before after : List ℕ) (wide : len ≤ length before) (P : Result ℕ JoinFault → Type 0)
      (made : (n : ℕ) → Feeds K room pieces (length pieces) → Handed K all before after n → P (Ok n))
      (none : ((job : List ℕ) → Fits K all job → ⊥) → after ≡ before → P (Err (fault.HandOver S.m over.NoJob))) where
    outcome : (r : Result ℕ JoinFault) → Joins K room pieces before after r → P r
    outcome (Ok n) j = made n j.0 j.2
    outcome (Err (fault.Add at f)) j = absurd (taken_not_refused K B (fed K room pieces at) (get_or pieces at []) (takes_all at (omega (arith, j.0))) f j.2)
    outcome (Err (fault.Close at (close.Field has))) j = absurd (j.2.1 own)
    outcome (Err (fault.Close at (close.Few has needs))) j =
        let m : length (fed K room pieces at).taken ≡ S.m = subst (λ (x : ℕ). length (fed K room pieces x).taken ≡ S.m) (sym j.0) all_many in
        let f : (first_of (fed K room pieces at)).settings.m ≡ S.m = subst (λ (x : ℕ). (first_of (fed K room pieces x)).settings.m ≡ S.m) (sym j.0) (ap (λ (x : Header). x.settings.m) all_first) in
        absurd (omega (arith, j.2.1, j.2.2, j.2.3))
    outcome (Err (fault.HandOver at (over.Field has))) j = absurd (j.3.1 own)
    outcome (Err (fault.HandOver at (over.Room has needs))) j =
        let f : (first_of (fed K room pieces at)).length ≡ len = subst (λ (x : ℕ). (first_of (fed K room pieces x)).length ≡ len) (sym j.0) (ap (λ (x : Header). x.length) all_first) in
        absurd (omega (arith, j.3.1, j.3.2, j.3.3))
    outcome (Err (fault.HandOver at over.NoJob)) j =
        subst (λ (x : ℕ). P (Err (fault.HandOver x over.NoJob))) (sym (j.0 ∙ many)) (none (subst (λ (x : ℕ). (job : List ℕ) → Fits K (fed K room pieces x) job → ⊥) j.0 j.3.2) j.4)

pub any_m_bring_back : {K : Ops} → FieldLaws K → Bounds K → (room : ℕ) (pieces : List (List ℕ)) (before after : List ℕ) (r : Result ℕ JoinFault)
    → Joins K room pieces before after r → AnyMBringBack K room pieces before after r
any_m_bring_back {K} L B room pieces before after r joins S lawful jn hj st hs job bytes short chosen choice many cut enough wide =
    let reads : (t : ℕ) → t < S.m → Accepts K (get_or pieces t []) × (header_in (get_or pieces t []) ≡ record { settings = S; number = chosen t; length = length job; job = jn; stamp = st })
    = λ t l.
    let w = choice.within t l in
    let R = back K B L S lawful (chosen t) w.0 w.1 jn hj st hs job bytes short in
    (subst (Accepts K) (sym (cut t l)) R.accepted, ap header_in (cut t l) ∙ R.head) in
    let all : Collected = fed K room pieces (length pieces) in
    let fits : Fits K all job = record {
      bytes = bytes;
      has = λ t l.
          let lt : t < S.m = omega (arith, all_many L B room pieces enough S lawful (length job) jn st chosen choice many reads) in
          let w = choice.within t lt in
          subst (HasPiece K job) (sym (all_piece L B room pieces enough S lawful (length job) jn st chosen choice many reads t lt ∙ ap (read_of K) (cut t lt)))
          (cut_has L B S lawful (chosen t) jn st w.0 w.1 job bytes hj hs short);
    } in
    outcome L B room pieces enough S lawful (length job) jn st chosen choice many reads before after wide
    (λ x. (x ≡ Ok (length job)) × (after ≡ job ++ drop (length job) before))
    (λ n fed-all h.
    let same : h.job ≡ job = sym (h.only job fits) in
    let en : n ≡ length job = h.long ∙ ap length same in
    (ap Ok en, h.written ∙ ap₂ (λ (xs : List ℕ) (k : ℕ). xs ++ drop k before) same en))
    (λ no e. absurd (no job fits)) r joins

pub no_job_is_made_up : {K : Ops} → FieldLaws K → Bounds K → (room : ℕ) (pieces : List (List ℕ)) (before after : List ℕ) (r : Result ℕ JoinFault)
    → Joins K room pieces before after r → NoJobIsMadeUp K room pieces before after r
no_job_is_made_up {K} L B room pieces before after r joins S lawful len jn st chosen choice many reads alone enough wide =
    let all : Collected = fed K room pieces (length pieces) in
    outcome L B room pieces enough S lawful len jn st chosen choice many reads before after wide
    (λ x. (x ≡ Err (fault.HandOver S.m over.NoJob)) × (after ≡ before))
    (λ n fed-all h.
    let made : List ℕ = h.job in
    let m = all_many L B room pieces enough S lawful len jn st chosen choice many reads in
    let has : (t : ℕ) → t < S.m → HasPiece K made (read_of K (get_or pieces t []))
    = λ t l. subst (HasPiece K made) (all_piece L B room pieces enough S lawful len jn st chosen choice many reads t l) (h.fits.has t (omega arith)) in
    let long : length made ≡ len = (has 0 (omega (arith, lawful.some))).long ∙ ap (λ (x : Header). x.length) (reads 0 (omega (arith, lawful.some))).1 in
    absurd (alone made h.fits.bytes long (λ t l.
    let w = choice.within t l in
    has_cut L B S lawful (chosen t) jn st w.0 w.1 made h.fits.bytes (get_or pieces t []) (fed-all.bytes t (omega arith)) (reads t l).0
    (subst (λ (x : ℕ). header_in (get_or pieces t []) ≡ record { settings = S; number = chosen t; length = x; job = jn; stamp = st }) (sym long) (reads t l).1) (has t l))))
    (λ no e. (refl, e)) r joins

-- a job that was joined is no longer than a job can be
pub joined_short : (K : Ops) (room : ℕ) (pieces : List (List ℕ)) (before after : List ℕ) (n : ℕ) → Joins K room pieces before after (Ok n) → n ≤ 4096
joined_short K room pieces before after n j =
    let C : Collected = fed K room pieces (length pieces) in
    let many : length C.taken ≡ length pieces = fed_many K room pieces (length pieces) (omega arith) in
    elim (ℕ_discrete (length pieces) 0) [
      | yes e ↦
          let one : (first_of C).settings.m ≡ 1 = ap (λ (k : ℕ). (first_of (fed K room pieces k)).settings.m) e in
          absurd (omega (arith, j.1.enough))
      | no ne ↦
          let some : 0 < length pieces = omega arith in
          let h = j.2 in
          let short = short_if_sensible (header_in (get_or pieces 0 [])) (j.0.takes 0 some).readable.read.header in
          let e : length h.job ≡ (header_in (get_or pieces 0 [])).length
          = (h.fits.has 0 (omega arith)).long ∙ ap (λ (p : Taken). p.header.length) (fed_at K room pieces (length pieces) (omega arith) 0 some) in
          omega (arith, h.long)
    ]
