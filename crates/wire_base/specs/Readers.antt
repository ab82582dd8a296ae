-- Readers carry the place. A reader is given the whole bytes and the place at which its field begins, and
-- answers the value and the place behind it, or the place of the fault. So a record's reader is its fields in order.
use Rattle.std.specs.Prelude.{◌≡◌, ℕ, zero, suc, ◌+◌, List, [], ◌∷◌, ◌++◌, ◌<◌, ◌≤◌, ◌^◌, true, length, take, drop, Option, Some, None, Result, Ok, Err, nat_lt, if◌then◌else◌}
use Rattle.std.specs.List.{flat_map, AllByRecursion}
use Rattle.std.specs.Int.{Width, w16, byte_len, from_le_bytes, to_le_bytes}
use Rattle.wire_base.specs.Texts.{is_text}
use Rattle.wire_base.specs.declared.reader.BadField.{BadField}
use Rattle.wire_base.specs.declared.reader.CodecFault.{CodecFault}
use Rattle.wire_base.specs.declared.reader.CodecFault.TheVariants as faults

abbrev pub Reader : Type 0 → Type 0
Reader A = List ℕ → ℕ → Result (A × ℕ) ℕ

-- one step and then another; the first fault ends it
infixl 10 ◌>>=◌
abbrev pub ◌>>=◌ : {A B : Type 0} → Result A ℕ → (A → Result B ℕ) → Result B ℕ
(Ok x) >>= f = f x
(Err at) >>= f = Err at

-- a number of so many bytes, the lowest first
abbrev pub number : Width → Reader ℕ
number w bytes at =
    if nat_lt (length (drop at bytes)) (byte_len w) then Err at
    else Ok (from_le_bytes w (take (byte_len w) (drop at bytes)), at + byte_len w)

-- a length of so many bytes, and then that many bytes
unfoldable pub block : Width → Reader (List ℕ)
block w bytes at = do
  n ← number w bytes at
  if nat_lt (length (drop n.1 bytes)) n.0 then Err at else Ok (take n.0 (drop n.1 bytes), n.1 + n.0)

-- a length of two bytes, and then that many bytes of text
unfoldable pub string : Reader (List ℕ)
string bytes at = do
  s ← block w16 bytes at
  if is_text s.0 then Ok s else Err at

-- so many values, one behind the other
abbrev pub times : {A : Type 0} → Reader A → ℕ → Reader (List A)
times read zero bytes at = Ok ([], at)
times read (suc n) bytes at = do
  first ← read bytes at
  others ← times read n bytes first.1
  Ok (first.0 ∷ others.0, others.1)

-- a count of so many bytes, and then that many values; a count over the most is a fault
unfoldable pub listed : {A : Type 0} → Width → ℕ → Reader A → Reader (List A)
listed w most read bytes at = do
  n ← number w bytes at
  if nat_lt most n.0 then Err at else times read n.0 bytes n.1

-- one field and then another
abbrev pub both : {A B : Type 0} → Reader A → Reader B → Reader (A × B)
both first second bytes at = do
  x ← first bytes at
  y ← second bytes x.1
  Ok ((x.0, y.0), y.1)

-- what was read, as another value
abbrev pub converted : {A B : Type 0} → (A → B) → Reader A → Reader B
converted f read bytes at = do
  x ← read bytes at
  Ok (f x.0, x.1)

-- no field
abbrev pub nothing : Reader (Unit {0})
nothing bytes at = Ok (tt, at)

-- the value of what was read, without its place
abbrev pub value_of : {A : Type 0} → Result (A × ℕ) ℕ → Option A
value_of (Ok x) = Some x.0
value_of (Err at) = None

-- ---- what the readers read, as it is written

-- a length of so many bytes, and then the bytes
abbrev pub counted : Width → List ℕ → List ℕ
counted w bytes = to_le_bytes w (length bytes) ++ bytes

-- a string of 9P: a length of two bytes, and then the text
abbrev pub spelled : List ℕ → List ℕ
spelled text = counted w16 text

-- what fits a string: text of at most 65,535 bytes
pub record IsString (bytes : List ℕ) : Type 0 where
  pub short : length bytes < 2 ^ 16
  pub text : is_text bytes ≡ true

-- a list as it is written, and what fits one
abbrev pub listing : {A : Type 0} → Width → (A → List ℕ) → List A → List ℕ
listing w text xs = to_le_bytes w (length xs) ++ flat_map text xs

pub record FitsList {A : Type 0} (most : ℕ) (P : A → Type 0) (xs : List A) : Type 0 where
  pub few : length xs ≤ most
  pub each : AllByRecursion P xs

-- no bytes are left
abbrev pub no_more : {A : Type 0} → A → List ℕ → ℕ → Result A ℕ
no_more x bytes at = if nat_lt at (length bytes) then Err at else Ok x

-- What a function returned, seen by view, is what the reader gives.
abbrev pub Finds : {X Y : Type 0} → (X → Y) → Result X BadField → Result Y ℕ → Type 0
Finds view (Ok x) read = read ≡ Ok (view x)
Finds view (Err bad) read = read ≡ Err bad.at

-- The same of a function that takes memory: it may answer that memory ran out.
abbrev pub Fails : {Y : Type 0} → CodecFault → Result Y ℕ → Type 0
Fails faults.NoMemory read = Unit {0}
Fails (faults.Bad bad) read = read ≡ Err bad.at

abbrev pub Gives : {X Y : Type 0} → (X → Y) → Result X CodecFault → Result Y ℕ → Type 0
Gives view (Ok x) read = read ≡ Ok (view x)
Gives view (Err e) read = Fails e read
