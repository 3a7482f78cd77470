-- A piece in a buffer: its header, its body, and what stands behind it. Assumes nothing.
use Rattle.std.proofs.Common.{◌≡◌, ℕ, ◌+◌, ◌-◌, ◌/◌, ◌<◌, ◌≤◌, true, false, cond, leb, ◌⊎◌, List, [], ◌++◌, length, get_or, take, drop, Ok, Err, sym, refl, ap, ◌∙◌, subst, ap₂, inl, inr, append_assoc, append-nil, arith, length-drop, take-append-drop, drop_of_length-le, drop-drop, le-leb}
use borrow.Author.Tests.{lt-leb}
use Rattle.std.specs.List.{flat_map}
use Rattle.field.specs.Laws.{Ops}
use Rattle.piece.specs.Schemes.{as_settings}
use Rattle.piece.specs.declared.Settings.{Settings}
use Rattle.piece.specs.declared.fault.CutFault.TheVariants as fault
use Rattle.piece.specs.declared.layout.Layout.{Layout}
use Rattle.piece.specs.Bits.{bits_of, octets, packed, bytes_for}
use Rattle.piece.specs.Cutting.{cutting, is_in_range, job_of, size}
use Rattle.piece.specs.Pieces.{body, columns, header, piece, value}
use Rattle.piece.proofs.Octets.{octets_append, listed_is}
use Rattle.piece.proofs.Values.{job_length}
use Rattle.piece.proofs.Ranges.{in_range_lawful, scheme_lawful}

header_length : (code : ℕ) (S : Settings) (i len jn st : ℕ) → length (header code S i len jn st) ≡ 80
unfolding header bits_of
header_length code S i len jn st = refl

-- the header's bytes come first and the rest is the body
pub piece_parts : (K : Ops) (S : Settings) (i jn st : ℕ) (job : List ℕ)
    → piece K S i jn st job ≡ octets (header K.code S i (length job) jn st) ++ packed K.width (body K S job i)
unfolding piece
piece_parts K S i jn st job =
    octets_append 10 (header K.code S i (length job) jn st) (flat_map (bits_of K.width) (body K S job i)) (header_length K.code S i (length job) jn st)

-- a laid out job fills the columns that the layout counts
pub columns_counted : (L : Layout) → columns L.scheme.m (job_of L) ≡ L.columns
columns_counted L = ap (λ (n : ℕ). (n + (L.scheme.m - 1)) / L.scheme.m) (job_length L) ∙ sym L.many

pub body_values : (K : Ops) (L : Layout) (i : ℕ) (vs : List ℕ) → length vs ≡ L.columns
    → ((k : ℕ) → k < length vs → get_or vs k 0 ≡ value K (as_settings L.scheme) (job_of L) i k) → vs ≡ body K (as_settings L.scheme) (job_of L) i
body_values K L i vs l v =
    let e : length vs ≡ columns L.scheme.m (job_of L) = l ∙ sym (columns_counted L) in
    listed_is vs (columns L.scheme.m (job_of L)) (value K (as_settings L.scheme) (job_of L) i) e (λ k h. v k (subst (λ (n : ℕ). k < n) (sym e) h))

-- header and body written one after the other
pub written_piece : (K : Ops) (L : Layout) (i jn st r w len : ℕ) (vs out h p : List ℕ) → w ≡ K.width → len ≡ L.length → 10 ≤ length h
    → length vs ≡ L.columns → ((k : ℕ) → k < length vs → get_or vs k 0 ≡ value K (as_settings L.scheme) (job_of L) i k)
    → take 10 h ≡ octets (header K.code (as_settings L.scheme) i len jn st) → drop 10 h ≡ drop 10 out
    → r ≡ bytes_for w (length vs) → take r p ≡ packed w vs → drop r p ≡ drop r (drop 10 h)
    → take 10 h ++ (p ++ drop (length h - 10) (drop 10 h)) ≡ piece K (as_settings L.scheme) i jn st (job_of L) ++ drop (size K L.columns) out
written_piece K L i jn st r w len vs out h p ew el room lv v head rest many front behind =
    let S = (as_settings L.scheme) in
    let job = job_of L in
    let none : drop (length h - 10) (drop 10 h) ≡ [] = drop_of_length-le (drop 10 h) {i = length h - 10} (simp length-drop (omega arith)) in
    let vals : vs ≡ body K S job i = body_values K L i vs lv v in
    let first : take 10 h ≡ octets (header K.code S i (length job) jn st) = head ∙ ap (λ (n : ℕ). octets (header K.code S i n jn st)) (el ∙ sym (job_length L)) in
    let second : take r p ≡ packed K.width (body K S job i) = front ∙ ap₂ (λ (b : ℕ) (xs : List ℕ). packed b xs) ew vals in
    let end : 10 + r ≡ size K L.columns = ap (λ (n : ℕ). 10 + n) (many ∙ ap₂ (λ (b c : ℕ). bytes_for b c) ew lv) in
    let tail : drop r p ≡ drop (size K L.columns) out = behind ∙ ap (drop r) rest ∙ drop-drop r 10 out ∙ ap (λ (n : ℕ). drop n out) end in
    ap (λ (xs : List ℕ). take 10 h ++ (p ++ xs)) none ∙ ap (λ (xs : List ℕ). take 10 h ++ xs) (append-nil p ∙ sym (take-append-drop r p))
    ∙ ap₂ (λ (xs ys : List ℕ). xs ++ ys) first (ap₂ (λ (xs ys : List ℕ). xs ++ ys) second tail)
    ∙ sym (append_assoc (octets (header K.code S i (length job) jn st)) (packed K.width (body K S job i)) (drop (size K L.columns) out))
    ∙ ap (λ (xs : List ℕ). xs ++ drop (size K L.columns) out) (sym (piece_parts K S i jn st job))

-- the answers of cutting, one for each way through its tests
module _ (K : Ops) (L : Layout) (i room : ℕ) where
  passed : {A : Type 0} (x y z : A) → cond (is_in_range (as_settings L.scheme)) (cond (leb (length (job_of L)) 4096) x y) z ≡ x
  passed x y z =
      let short : length (job_of L) ≤ 4096 = subst (λ (n : ℕ). n ≤ 4096) (sym (job_length L)) L.short in
      rw (in_range_lawful (as_settings L.scheme) (scheme_lawful L.scheme), le-leb (length (job_of L)) 4096 short) refl

  pub no_number : (i < 1) ⊎ ((1 ≤ i) × (L.scheme.n < i)) → cutting K (as_settings L.scheme) (job_of L) i room ≡ Err (fault.Number i L.scheme.n)
  no_number (inl h) = passed _ _ _ ∙ rw (lt-leb 1 i h) refl
  no_number (inr (a, h)) = passed _ _ _ ∙ rw (le-leb 1 i a, lt-leb i L.scheme.n h) refl

  pub no_room : 1 ≤ i → i ≤ L.scheme.n → room < size K L.columns → cutting K (as_settings L.scheme) (job_of L) i room ≡ Err (fault.Room room (size K L.columns))
  no_room a b h =
      let l : leb (size K (columns L.scheme.m (job_of L))) room ≡ false = rw (columns_counted L) (lt-leb (size K L.columns) room h) in
      passed _ _ _ ∙ rw (le-leb 1 i a, le-leb i L.scheme.n b, l, columns_counted L) refl

  pub accepted : 1 ≤ i → i ≤ L.scheme.n → size K L.columns ≤ room → cutting K (as_settings L.scheme) (job_of L) i room ≡ Ok (size K L.columns)
  accepted a b h =
      let l : leb (size K (columns L.scheme.m (job_of L))) room ≡ true = rw (columns_counted L) (le-leb (size K L.columns) room h) in
      passed _ _ _ ∙ rw (le-leb 1 i a, le-leb i L.scheme.n b, l, columns_counted L) refl
