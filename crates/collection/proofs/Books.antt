-- What a book says of the pieces that were taken. Assumes nothing.
use Rattle.std.proofs.Common.{Option, ◌≡◌, ℕ, ◌<◌, ◌≤◌, List, map, length, get_or, sym, refl, ap, ◌∙◌, subst, arith}
use native.Mathlib.Decide.{ℕ_discrete}
use Rattle.std.specs.Option.{unwrap_or}
use Rattle.std.specs.List.{range_with_len}
use Rattle.std.proofs.lemmas.List.FromFn.{length-map-range_with_len, get_or-map-range_with_len, fill_by_all}
use Rattle.field.specs.Laws.{Ops}
use Rattle.piece.specs.declared.Header.{Header}
use Rattle.piece.specs.declared.fault.ReadFault.{ReadFault}
use Rattle.piece.specs.declared.fault.ReadFault.TheVariants as read
use Rattle.piece.specs.Reading.{header_in, Accepts, Headed, Refuses, number}
use Rattle.collection.specs.declared.book.Book.{Book}
use Rattle.collection.specs.declared.fault.AddFault.{AddFault}
use Rattle.collection.specs.declared.fault.AddFault.TheVariants as fault
use Rattle.collection.specs.Adding.{Alike, Readable, Takes, RefusesPiece}
use Rattle.collection.specs.Books.{first_in, Follows, Hinders, head_of, in_closed, in_open, places, solved_at, taken_at}
use Rattle.collection.specs.declared.FieldNumbers.{FieldNumbers}
use Rattle.collection.specs.Collected.{Collected, For, Taken, blank, first_of, fresh, nothing, field_numbers_of, piece_at}

-- a list made by the index depends on what is made alone
pub map_same : {X : Type 0} (n : ℕ) (d : X) (f g : ℕ → X) → ((t : ℕ) → t < n → f t ≡ g t) → map f (range_with_len 0 n) ≡ map g (range_with_len 0 n)
map_same n d f g e =
    fill_by_all g (map f (range_with_len 0 n)) n d (length-map-range_with_len f 0 n) (λ t l. get_or-map-range_with_len f 0 n t t d l (omega arith) ∙ e t l)

-- a collection whose pieces have the headers of a book
module _ (b : Book) (C : Collected) (f : ℕ → Taken) (made : C.taken ≡ map f (range_with_len 0 b.have)) (heads : (t : ℕ) → (f t).header ≡ head_of b t) where
  many : length C.taken ≡ b.have
  many = ap length made ∙ length-map-range_with_len f 0 b.have

  piece_at_is : (t : ℕ) → t < b.have → piece_at C t ≡ f t
  piece_at_is t l = ap (λ (ps : List Taken). get_or ps t nothing) made ∙ get_or-map-range_with_len f 0 b.have t t nothing l (omega arith)

  number_at : (t : ℕ) → t < b.have → (piece_at C t).header.number ≡ get_or b.numbers t 0
  number_at t l = ap (λ (p : Taken). p.header.number) (piece_at_is t l) ∙ ap (λ (h : Header). h.number) (heads t)

  first_at : 1 ≤ b.have → first_of C ≡ first_in b
  first_at l =
      ap (λ (p : Taken). p.header) (piece_at_is 0 l)
      ∙ (heads 0
      ∙ ap (λ (i : ℕ). record { settings = (first_in b).settings; number = i; length = (first_in b).length; job = (first_in b).job; stamp = (first_in b).stamp }) (sym (b.lead l)))

  none_at : b.have ≡ 0 → first_of C ≡ blank
  none_at e = ap (λ (ps : List Taken). (get_or ps 0 nothing).header) (made ∙ ap (λ (n : ℕ). map f (range_with_len 0 n)) e)

  needed_at : (first_of C).settings.m ≡ places b
  needed_at = elim (ℕ_discrete b.have 0) [
    | yes e ↦ ap (λ (h : Header). h.settings.m) (none_at e) ∙ sym (ap (λ (o : Option Header). (unwrap_or o blank).settings.m) (b.none e))
    | no n ↦ ap (λ (h : Header). h.settings.m) (first_at (omega arith))
  ]

module _ (b : Book) (work : List ℕ) where
  open_made : (in_open b work).taken ≡ map (taken_at b work) (range_with_len 0 b.have)
  unfolding in_open
  open_made = refl

  open_heads : (t : ℕ) → (taken_at b work t).header ≡ head_of b t
  unfolding taken_at
  open_heads t = refl

  pub open_field : (in_open b work).field ≡ b.field
  unfolding in_open
  open_field = refl

  pub open_room : (in_open b work).room ≡ length work
  unfolding in_open
  open_room = refl

  pub open_many : length (in_open b work).taken ≡ b.have
  open_many = many b (in_open b work) (taken_at b work) open_made open_heads

  pub open_number : (t : ℕ) → t < b.have → (piece_at (in_open b work) t).header.number ≡ get_or b.numbers t 0
  open_number = number_at b (in_open b work) (taken_at b work) open_made open_heads

  pub open_first : 1 ≤ b.have → first_of (in_open b work) ≡ first_in b
  open_first = first_at b (in_open b work) (taken_at b work) open_made open_heads

  pub open_needed : (first_of (in_open b work)).settings.m ≡ places b
  open_needed = needed_at b (in_open b work) (taken_at b work) open_made open_heads

module _ (K : Ops) (b : Book) (work : List ℕ) where
  closed_made : (in_closed K b work).taken ≡ map (solved_at K b work) (range_with_len 0 b.have)
  unfolding in_closed
  closed_made = refl

  closed_heads : (t : ℕ) → (solved_at K b work t).header ≡ head_of b t
  unfolding solved_at
  closed_heads t = refl

  pub closed_field : (in_closed K b work).field ≡ b.field
  unfolding in_closed
  closed_field = refl

  pub closed_many : length (in_closed K b work).taken ≡ b.have
  closed_many = many b (in_closed K b work) (solved_at K b work) closed_made closed_heads

  pub closed_piece : (t : ℕ) → t < b.have → piece_at (in_closed K b work) t ≡ solved_at K b work t
  closed_piece = piece_at_is b (in_closed K b work) (solved_at K b work) closed_made closed_heads

  pub closed_first : 1 ≤ b.have → first_of (in_closed K b work) ≡ first_in b
  closed_first = first_at b (in_closed K b work) (solved_at K b work) closed_made closed_heads

-- the numbers that are a field's
pub numbers_of : (K : Ops) (f : FieldNumbers) → For K f → f ≡ field_numbers_of K
numbers_of K f own =
    ap (λ (c : ℕ). record { code = c; order = f.order; width = f.width }) own.code
    ∙ (ap (λ (o : ℕ). record { code = K.code; order = o; width = f.width }) own.order
    ∙ ap (λ (w : ℕ). record { code = K.code; order = K.order; width = w }) own.width)

-- a collection of no pieces
pub open_fresh : (K : Ops) (b : Book) (work : List ℕ) → For K b.field → b.have ≡ 0 → in_open b work ≡ fresh K (length work)
unfolding in_open
open_fresh K b work own none =
    ap (λ (f : FieldNumbers). record { field = f; room = length work; taken = map (taken_at b work) (range_with_len 0 b.have) }) (numbers_of K b.field own)
    ∙ ap (λ (n : ℕ). record { field = field_numbers_of K; room = length work; taken = map (taken_at b work) (range_with_len 0 n) }) none

-- the length of the job of a closed one
pub closed_length : (K : Ops) (b : Book) (work : List ℕ) → b.have ≡ places b → (first_of (in_closed K b work)).length ≡ (first_in b).length
closed_length K b work full = ap (λ (h : Header). h.length) (closed_first K b work (omega (arith, b.some)))

-- the book's verdict is the collection's
module _ (K : Ops) (b : Book) (work bytes : List ℕ) (room : 4623 ≤ length work) where
  abbrev C : Collected
  C = in_open b work

  readable : For K b.field → Accepts K bytes → Readable K C bytes
  readable f a = record {
    work = omega (arith, open_room b work);
    field = subst (For K) (sym (open_field b work)) f;
    read = a;
  }

  pub takes : For K b.field → Accepts K bytes → Follows b (header_in bytes) → Takes K C bytes
  takes f a h = record {
    readable = readable f a;
    space = omega (arith, open_many b work, open_needed b work, h.space);
    alike = λ l. let k : 1 ≤ b.have = omega (arith, open_many b work) in subst (λ (x : Header). Alike x (header_in bytes)) (sym (open_first b work k)) (h.alike k);
    new = λ t l e. let k : t < b.have = omega (arith, open_many b work) in h.new t k (sym (open_number b work t k) ∙ e);
  }

  pub hindered : (f : AddFault) → For K b.field → Accepts K bytes → Hinders b (header_in bytes) f → RefusesPiece K C bytes f
  hindered (fault.Work has) o a h = absurd h
  hindered (fault.Reader e) o a h = absurd h
  hindered (fault.Field has) o a h = absurd h
  hindered (fault.Full m) o a h = (readable o a, h.0 ∙ sym (open_needed b work), omega (arith, open_many b work, h.1))
  hindered (fault.Differs first piece) o a h = (
    readable o a,
    omega (arith, open_many b work, h.0),
    omega (arith, open_many b work, open_needed b work, h.1),
    h.2 ∙ sym (open_first b work h.0),
    h.3,
    λ k. h.4 (subst (λ (x : Header). Alike x (header_in bytes)) h.2 (subst (Alike first) h.3 k)),
  )
  hindered (fault.Again i) o a h = (
    readable o a,
    omega (arith, open_many b work, h.0),
    omega (arith, open_many b work, open_needed b work, h.1),
    subst (λ (x : Header). Alike x (header_in bytes)) (sym (open_first b work h.0)) h.2,
    h.3,
    (h.4.0, omega (arith, open_many b work, h.4.1), open_number b work h.4.0 h.4.1 ∙ h.4.2),
  )

-- what a collection for another field answers
module _ (K : Ops) (b : Book) (work bytes : List ℕ) (room : 4623 ≤ length work) (other : For K b.field → ⊥) where
  not_for : For K (in_open b work).field → ⊥
  not_for f = other (subst (For K) (open_field b work) f)

  pub other_read : (f : ReadFault) → Refuses K bytes f → number f ≤ 7 → RefusesPiece K (in_open b work) bytes (fault.Reader f)
  other_read f r l = (omega (arith, open_room b work), r, λ _. l)

  pub other_field_refused : Headed K bytes → RefusesPiece K (in_open b work) bytes (fault.Field b.field)
  other_field_refused h = (omega (arith, open_room b work), sym (open_field b work), not_for, h)

  -- past 7 there is a header of the field
  pub headed : (f : ReadFault) → Refuses K bytes f → 7 < number f → Headed K bytes
  headed (read.Short len) r l = absurd (omega arith)
  headed (read.Field code wants) r l = absurd (omega arith)
  headed (read.Header rows m n i len) r l = r.0
  headed (read.Body has needs) r l = r.0
  headed (read.Value at) r l = r.0

-- the reader's refusal, where the field is the collection's
pub reader_refuses : (K : Ops) (b : Book) (work bytes : List ℕ) → 4623 ≤ length work → For K b.field
    → (f : ReadFault) → Refuses K bytes f → RefusesPiece K (in_open b work) bytes (fault.Reader f)
reader_refuses K b work bytes room own f r =
    (omega (arith, open_room b work), r, λ other. absurd (other (subst (For K) (sym (open_field b work)) own)))
