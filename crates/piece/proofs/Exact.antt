-- What the reader accepts, and that it reads back what was cut. Assumes nothing.
use Rattle.std.proofs.Common.{◌≡◌, ℕ, ◌+◌, ◌-◌, ◌*◌, ◌/◌, ◌%◌, ◌^◌, ◌<◌, ◌≤◌, Bool, true, false, cond, eqb, List, ◌∷◌, ◌++◌, length, get_or, drop, sym, refl, ap, ◌∙◌, subst, arith, le-leb, leb-true}
use native.Mathlib.Decide.{dec_lt}
use Rattle.std.proofs.lemmas.List.{get_or_past}
use Rattle.field.specs.Laws.{Ops, FieldLaws, Bounds}
use Rattle.field.proofs.Bounds.{byte_is_a_code, rows_fit}
use Rattle.field.proofs.Combining.{mix_below}
use Rattle.algebra.specs.Codes.{power}
use Rattle.algebra.proofs.Codes.{power_below}
use Rattle.piece.specs.declared.Header.{Header}
use Rattle.piece.specs.declared.Settings.{Settings}
use Rattle.piece.specs.Bits.{octets, packed, bytes_for, value_in, Holds}
use Rattle.piece.specs.Composed.{Composed, ReaderExact, ReadsBackWhole}
use Rattle.piece.specs.Layouts.{Bytes}
use Rattle.piece.specs.Pieces.{Lawful, body, columns, entry, header, listed, piece, place, value}
use Rattle.piece.specs.Reading.{code_in, header_in, count, sensible, GoodBody, Accepts}
use Rattle.piece.proofs.Octets.{length_packed, length_listed, get_d_listed}
use Rattle.piece.proofs.Faults.{held_listed}
use Rattle.piece.proofs.Fields.{code_is, header_is, code_of, header_of, ten_front, fields}
use Rattle.piece.proofs.Headers.{header_bytes}
use Rattle.piece.proofs.Cuts.{piece_parts}
use Rattle.piece.proofs.Ranges.{first_of, second_of}

-- bytes that begin with a header
record Written (code : ℕ) (H : Header) (rest bytes : List ℕ) : Type 0 where
  long : 10 ≤ length bytes
  code_read : code_in bytes ≡ code
  header_read : header_in bytes ≡ H
  rest_read : drop 10 bytes ≡ rest

-- ten bytes that have the header's fields
ten_read : (code : ℕ) (H : Header) (a b c d e f g h i j : ℕ) (rest : List ℕ)
    → a < 256 → b < 256 → c < 256 → d < 256 → e < 256 → f < 256 → g < 256 → h < 256 → i < 256 → j < 256
    → a / 64 ≡ code → a / 16 % 4 ≡ H.settings.rows → a % 16 + 1 ≡ H.settings.m → b / 8 + 1 ≡ H.settings.n
    → b % 8 * 4 + c / 64 + 1 ≡ H.number → c % 64 * 256 + d ≡ H.length → e * 256 + f ≡ H.job
    → g * 16777216 + h * 65536 + i * 256 + j ≡ H.stamp
    → Written code H rest (a ∷ b ∷ c ∷ d ∷ e ∷ f ∷ g ∷ h ∷ i ∷ j ∷ rest)
ten_read code H a b c d e f g h i j rest ha hb hc hd he hf hg hh hi hj e0 e1 e2 e3 e4 e5 e6 e7 = record {
  long = omega arith;
  code_read = code_is a b c d e f g h i j rest ha hb hc hd he hf hg hh hi hj ∙ e0;
  header_read = header_is a b c d e f g h i j rest ha hb hc hd he hf hg hh hi hj ∙ rw (e1, e2, e3, e4, e5, e6, e7) refl;
  rest_read = refl;
}

-- a lawful header and the rest
written : (code : ℕ) (H : Header) (rest : List ℕ) → code < 4 → Lawful H.settings → 1 ≤ H.number → H.number ≤ H.settings.n → H.length ≤ 4096
    → H.job < 65536 → H.stamp < 4294967296
    → Written code H rest (octets (header code H.settings H.number H.length H.job H.stamp) ++ rest)
written code H rest hc L least most short job stamp =
    let S = H.settings in
    let kind = L.kind in
    let some = L.some in
    let needed = L.needed in
    let enough = L.enough in
    let made = L.made in
    subst (λ (front : List ℕ). Written code H rest (front ++ rest))
    (sym (header_bytes code S H.number H.length H.job H.stamp hc L least (omega arith) short job stamp))
    (ten_read code H _ _ _ _ _ _ _ _ _ _ rest
    (omega arith) (omega arith) (omega arith) (omega arith) (omega arith) (omega arith) (omega arith) (omega arith) (omega arith) (omega arith)
    (omega arith) (omega arith) (omega arith) (omega arith) (omega arith) (omega arith) (omega arith) (omega arith))

-- a header that passes the test

pub record Passes (H : Header) : Type 0 where
  pub kind : H.settings.rows ≤ 1
  pub enough : H.settings.m ≤ H.settings.n
  pub most : H.number ≤ H.settings.n
  pub short : H.length ≤ 4096

pub passes : (H : Header) → sensible H ≡ true → Passes H
passes H e =
    let b1 = second_of _ _ e in
    let b2 = second_of _ _ b1 in
    record {
      kind = leb-true H.settings.rows 1 (first_of _ _ e);
      enough = leb-true H.settings.m H.settings.n (first_of _ _ b1);
      most = leb-true H.number H.settings.n (first_of _ _ b2);
      short = leb-true H.length 4096 (second_of _ _ b2);
    }

sensible_if : (H : Header) → H.settings.rows ≤ 1 → H.settings.m ≤ H.settings.n → H.number ≤ H.settings.n → H.length ≤ 4096 → sensible H ≡ true
sensible_if H a b c d =
    rw (le-leb H.settings.rows 1 a, le-leb H.settings.m H.settings.n b, le-leb H.number H.settings.n c, le-leb H.length 4096 d) refl

-- a byte, also past the end
pub byte_at : (xs : List ℕ) → Bytes xs → (k : ℕ) → get_or xs k 0 < 256
byte_at xs u k = elim (dec_lt k (length xs)) [
  | yes h ↦ u k h
  | no h ↦ let z : get_or xs k 0 ≡ 0 = get_or_past xs k 0 (omega arith) in omega arith
]

-- equal bytes one by one
ten_same : {a b c d e f g h i j a' b' c' d' e' f' g' h' i' j' : ℕ} {xs ys : List ℕ}
    → a ≡ a' → b ≡ b' → c ≡ c' → d ≡ d' → e ≡ e' → f ≡ f' → g ≡ g' → h ≡ h' → i ≡ i' → j ≡ j' → xs ≡ ys
    → a ∷ b ∷ c ∷ d ∷ e ∷ f ∷ g ∷ h ∷ i ∷ j ∷ xs ≡ a' ∷ b' ∷ c' ∷ d' ∷ e' ∷ f' ∷ g' ∷ h' ∷ i' ∷ j' ∷ ys
ten_same ea eb ec ed ee ef eg eh ei ej es = cc

module _ (K : Ops) (B : Bounds K) where
  -- what is composed is accepted, and its header is read back
  pub record Reads (H : Header) (values bytes : List ℕ) : Type 0 where
    pub accepts : Accepts K bytes
    pub head_read : header_in bytes ≡ H
    pub body_read : drop 10 bytes ≡ packed K.width values

  good_body : (n : ℕ) (values : List ℕ) → length values ≡ n → ((k : ℕ) → k < length values → get_or values k 0 < K.order) → GoodBody K n (packed K.width values)
  good_body n values many codes =
      let w = K.width in
      let bytes = packed w values in
      let holds : Holds K.order w bytes values = record { codes = codes; bytes_are = refl } in
      let same : values ≡ listed n (value_in w bytes) = held_listed K.order w bytes values B.order_fits holds ∙ ap (λ (m : ℕ). listed m (value_in w bytes)) many in
      record {
        long = length_packed w values ∙ ap (bytes_for w) many;
        holds = subst (Holds K.order w bytes) same holds;
      }

  pub composed_reads : (bytes : List ℕ) (C : Composed K bytes) → Reads C.head C.values bytes
  composed_reads bytes C =
      let H = C.head in
      let rest = packed K.width C.values in
      let L = C.lawful in
      let W : Written K.code H rest bytes = subst (Written K.code H rest) (sym C.bytes_are)
      (written K.code H rest B.code_most L C.least C.most C.short C.job C.stamp) in
      record {
        accepts = record {
          headed = record { long = W.long; field = W.code_read };
          header = ap sensible W.header_read ∙ sensible_if H L.kind L.enough C.most C.short;
          body = subst (λ (xs : List ℕ). GoodBody K (count (header_in bytes)) xs) (sym W.rest_read)
              (subst (λ (J : Header). GoodBody K (count J) rest) (sym W.header_read) (good_body (count H) C.values C.many C.codes));
        };
        head_read = W.header_read;
        body_read = W.rest_read;
      }

  -- what is accepted is composed
  pub accepts_composed : (bytes : List ℕ) → Bytes bytes → Accepts K bytes → Composed K bytes
  accepts_composed bytes u A =
      let small = byte_at bytes u in
      let l = A.headed.long in
      let H : Header = fields bytes l small in
      let eh : header_in bytes ≡ H = header_of bytes l small in
      let ec : get_or bytes 0 0 / 64 ≡ K.code = sym (code_of bytes l small) ∙ A.headed.field in
      let P : Passes H = passes H (ap sensible (sym eh) ∙ A.header) in
      let G : GoodBody K (count H) (drop 10 bytes) = subst (λ (J : Header). GoodBody K (count J) (drop 10 bytes)) eh A.body in
      let vs : List ℕ = listed (count H) (value_in K.width (drop 10 bytes)) in
      let s0 = small 0 in
      let s1 = small 1 in
      let s2 = small 2 in
      let s3 = small 3 in
      let s4 = small 4 in
      let s5 = small 5 in
      let s6 = small 6 in
      let s7 = small 7 in
      let s8 = small 8 in
      let s9 = small 9 in
      let L : Lawful H.settings = record { kind = P.kind; some = omega arith; needed = omega arith; enough = P.enough; made = omega arith } in
      let job : H.job < 65536 = omega arith in
      let stamp : H.stamp < 4294967296 = omega arith in
      let front = header_bytes K.code H.settings H.number H.length H.job H.stamp B.code_most L (omega arith) (omega arith) P.short job stamp in
      record {
        head = H;
        lawful = L;
        least = omega arith;
        most = P.most;
        short = P.short;
        job = job;
        stamp = stamp;
        values = vs;
        many = length_listed (count H) (value_in K.width (drop 10 bytes));
        codes = G.holds.codes;
        bytes_are = ten_front bytes l
            ∙ (ten_same (omega arith) (omega arith) (omega arith) (omega arith) (omega arith) (omega arith) (omega arith) (omega arith) (omega arith) (omega arith) G.holds.bytes_are
            ∙ ap (λ (xs : List ℕ). xs ++ packed K.width vs) (sym front));
      }

  pub exact : ReaderExact K
  exact bytes u = (accepts_composed bytes u, λ C. (composed_reads bytes C).accepts)

  -- the values of a piece are codes
  module _ (F : FieldLaws K) where
    either_below : (t : Bool) (x y q : ℕ) → x < q → y < q → cond t x y < q
    either_below true x y q a b = a
    either_below false x y q a b = b

    pub entry_below : (S : Settings) → Lawful S → (i : ℕ) → 1 ≤ i → i ≤ S.n → (j : ℕ) → j < S.m → entry K S i j < K.order
    entry_below S L i least most j h =
        let fit = rows_fit B S.m S.n L.needed L.made in
        let point : i < K.order = omega arith in
        let high : S.m + i - 1 < K.order = omega (arith, L.some) in
        let low : j < K.order = omega arith in
        either_below (eqb S.rows 0) (power K i j) (K.inv (K.add (S.m + i - 1) (K.neg j))) K.order
        (power_below F i j point) (F.inv_below _ (F.add_below _ _ high (F.neg_below j low)))

    pub value_code : (S : Settings) → Lawful S → (i : ℕ) → 1 ≤ i → i ≤ S.n → (job : List ℕ) → Bytes job → (k : ℕ) → value K S job i k < K.order
    unfolding value
    value_code S L i least most job u k =
        mix_below F S.m (entry K S i) (place S.m job k) (entry_below S L i least most) (λ j h. byte_is_a_code B _ (byte_at job u (k * S.m + j)))

    pub piece_composed : (S : Settings) → Lawful S → (i : ℕ) → 1 ≤ i → i ≤ S.n → (jn : ℕ) → jn < 2 ^ 16 → (st : ℕ) → st < 2 ^ 32
        → (job : List ℕ) → Bytes job → length job ≤ 4096 → Composed K (piece K S i jn st job)
    piece_composed S L i least most jn hj st hs job u short =
        let n : ℕ = columns S.m job in
        let ln : length (body K S job i) ≡ n = length_listed n (value K S job i) in
        record {
          head = record { settings = S; number = i; length = length job; job = jn; stamp = st };
          lawful = L;
          least = least;
          most = most;
          short = short;
          job = hj;
          stamp = hs;
          values = body K S job i;
          many = ln;
          codes = λ k h. subst (λ (v : ℕ). v < K.order) (sym (get_d_listed n (value K S job i) k (omega arith))) (value_code S L i least most job u k);
          bytes_are = piece_parts K S i jn st job;
        }

    pub back : ReadsBackWhole K
    unfolding piece_composed
    back S L i least most jn hj st hs job u short =
        let R = composed_reads (piece K S i jn st job) (piece_composed S L i least most jn hj st hs job u short) in
        record { accepted = R.accepts; head = R.head_read; body_is = R.body_read }
