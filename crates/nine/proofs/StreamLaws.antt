-- The frames of a stream, step by step.
use Rattle.std.proofs.Common.{◌≡◌, ℕ, zero, suc, ◌+◌, ◌<◌, ◌≤◌, List, [], ◌∷◌, ◌++◌, length, take, drop, Bool, true, false, ltb, leb, ◌||◌, ◌⊎◌, Ok, Err, refl, sym, ap, subst, ◌∙◌, append_assoc, append-nil, length-append, length-drop, length-take, take-append-drop, arith, inl, inr}
use Rattle.std.specs.List.{AllByRecursion, concat}
use Rattle.std.specs.Int.{w32, from_le_bytes}
use Rattle.std.proofs.lemmas.Bool.{cases_Bool, cases_lt, ltb-false, le-ltb, lt-ltb, leb-true, leb-false, le-leb}
use Rattle.std.proofs.lemmas.List.{take-append-le, take_at, drop_at, drop-drop}
use Rattle.std.proofs.lemmas.List.Folds.{concat-append}
use Rattle.wire_base.specs.Readers.{number}
use Rattle.nine.specs.Streams.{Front, IsWhole, IsBad, IsShort, is_bad, front, frames_up_to, frames, end_of, HasBadSize, IsFrames}
use Rattle.nine.specs.Framed.{Framing, passed, with_more}
use Rattle.nine.specs.Framing.{IsWithin, HasHandedOut, HandsOut, Answers, Continues}
use Rattle.nine.specs.declared.framer.Next.{Next}
use Rattle.nine.specs.declared.framer.Next.TheVariants.{Whole, NotYet, BadSize}

-- ---- the front, by its size

or_false : (a b : Bool) → (a || b) ≡ false → (a ≡ false) × (b ≡ false)
or_false true b e = absurd cc
or_false false b e = (refl, e)

good_size : (limit size : ℕ) → is_bad limit size ≡ false → (7 ≤ size) × (size ≤ limit)
good_size limit size e = let both = or_false (ltb size 7) (ltb limit size) e in (ltb-false _ _ both.0, ltb-false _ _ both.1)

pub is_good : (limit size : ℕ) → 7 ≤ size → size ≤ limit → is_bad limit size ≡ false
is_good limit size least most = rw (le-ltb size 7 least, le-ltb limit size most) refl

pub is_bad_either : (limit size : ℕ) → (size < 7) ⊎ ((7 ≤ size) × (limit < size)) → is_bad limit size ≡ true
is_bad_either limit size (inl low) = rw (lt-ltb size 7 low) refl
is_bad_either limit size (inr high) = elim (cases_Bool (ltb size 7)) [ inl low ↦ rw low refl | inr not ↦ rw (not, lt-ltb limit size high.1) refl ]

-- fewer than four bytes
pub front_none : (limit : ℕ) (stream : List ℕ) (at : ℕ) → number w32 stream 0 ≡ Err at → front limit stream ≡ IsShort
unfolding front
front_none limit stream at e = rw e refl

pub front_bad : (limit : ℕ) (stream : List ℕ) (size next : ℕ) → number w32 stream 0 ≡ Ok (size, next) → is_bad limit size ≡ true → front limit stream ≡ IsBad size
unfolding front
front_bad limit stream size next e bad = rw (e, bad) refl

pub front_part : (limit : ℕ) (stream : List ℕ) (size next : ℕ) → number w32 stream 0 ≡ Ok (size, next) → is_bad limit size ≡ false → leb size (length stream) ≡ false → front limit stream ≡ IsShort
unfolding front
front_part limit stream size next e good short = rw (e, good, short) refl

pub front_whole : (limit : ℕ) (stream : List ℕ) (size next : ℕ) → number w32 stream 0 ≡ Ok (size, next) → is_bad limit size ≡ false → leb size (length stream) ≡ true → front limit stream ≡ IsWhole size
unfolding front
front_whole limit stream size next e good there = rw (e, good, there) refl

-- ---- the size, by the front

number_there : (stream : List ℕ) → 4 ≤ length stream → number w32 stream 0 ≡ Ok (from_le_bytes w32 (take 4 stream), 4)
number_there stream le = rw (le-ltb (length stream) 4 le) refl

number_short : (stream : List ℕ) → length stream < 4 → number w32 stream 0 ≡ Err 0
number_short stream lt = rw (lt-ltb (length stream) 4 lt) refl

-- four bytes are the same whatever follows
number_more : (stream more : List ℕ) → 4 ≤ length stream → number w32 (stream ++ more) 0 ≡ number w32 stream 0
number_more stream more le = number_there (stream ++ more) (omega (arith, length-append stream more)) ∙ ap (λ (bytes : List ℕ). Ok (from_le_bytes w32 bytes, 4)) (take-append-le 4 stream more le) ∙ sym (number_there stream le)

-- what is known of a front that shows a size
record Sized (limit : ℕ) (stream : List ℕ) (size : ℕ) (bad : Bool) : Type 0 where
  long : 4 ≤ length stream
  read : number w32 stream 0 ≡ Ok (size, 4)
  judged : is_bad limit size ≡ bad

abbrev IsSized : ℕ → List ℕ → Front → Type 0
IsSized limit stream (IsWhole size) = Sized limit stream size false × (size ≤ length stream)
IsSized limit stream (IsBad size) = Sized limit stream size true
IsSized limit stream IsShort = Unit {0}

sized : (limit : ℕ) (stream : List ℕ) → IsSized limit stream (front limit stream)
sized limit stream = elim (cases_lt (length stream) 4) [
  | inl lt ↦ rw (front_none limit stream 0 (number_short stream lt)) tt
  | inr le ↦ let size = from_le_bytes w32 (take 4 stream) in elim (cases_Bool (is_bad limit size)) [
    | inl bad ↦ rw (front_bad limit stream size 4 (number_there stream le) bad) (record { long = le; read = number_there stream le; judged = bad })
    | inr good ↦ elim (cases_Bool (leb size (length stream))) [
      | inl there ↦ rw (front_whole limit stream size 4 (number_there stream le) good there) (record { long = le; read = number_there stream le; judged = good }, leb-true _ _ there)
      | inr short ↦ rw (front_part limit stream size 4 (number_there stream le) good short) tt
    ]
  ]
]

sized_as : (limit : ℕ) (stream : List ℕ) (f : Front) → front limit stream ≡ f → IsSized limit stream f
sized_as limit stream f e = subst (IsSized limit stream) e (sized limit stream)

-- what follows from each front
by_front : (f : Front) (P : Type 0) → ((size : ℕ) → f ≡ IsWhole size → P) → ((size : ℕ) → f ≡ IsBad size → P) → (f ≡ IsShort → P) → P
by_front (IsWhole size) P whole bad short = whole size refl
by_front (IsBad size) P whole bad short = bad size refl
by_front IsShort P whole bad short = short refl

-- a bad size stays one
pub bad_stays : (limit size : ℕ) (stream more : List ℕ) → front limit stream ≡ IsBad size → front limit (stream ++ more) ≡ IsBad size
bad_stays limit size stream more e =
    let s = sized_as limit stream (IsBad size) e in
    front_bad limit (stream ++ more) size 4 (number_more stream more s.long ∙ s.read) s.judged

-- ---- a whole frame at the front

pub frame_front : (limit : ℕ) (frame rest : List ℕ) → IsWithin limit frame → front limit (frame ++ rest) ≡ IsWhole (length frame)
frame_front limit frame rest is =
    front_whole limit (frame ++ rest) (length frame) 4 (number_more frame rest (omega (arith, is.frame_is.header)) ∙ is.frame_is.size) (is_good limit (length frame) is.frame_is.header is.size)
    (le-leb _ _ (omega (arith, length-append frame rest)))

pub front_within : (limit : ℕ) (stream : List ℕ) (size : ℕ) → front limit stream ≡ IsWhole size → IsWithin limit (take size stream)
front_within limit stream size e =
    let s = sized_as limit stream (IsWhole size) e in
    let good = good_size limit size s.0.judged in
    let len : length (take size stream) ≡ size = omega (arith, length-take size stream, s.1) in
    let parts : take size stream ++ drop size stream ≡ stream = take-append-drop size stream in
    let read : number w32 (take size stream) 0 ≡ Ok (size, 4) = sym (number_more (take size stream) (drop size stream) (omega (arith, len, good.0))) ∙ ap (λ (bytes : List ℕ). number w32 bytes 0) parts ∙ s.0.read in
    record { frame_is = record { header = omega (arith, len, good.0); size = read ∙ ap (λ (n : ℕ). Ok (n, 4)) (sym len) }; size = omega (arith, len, good.1) }

-- ---- the frames do not depend on how many are looked for

enough : (n m limit : ℕ) (stream : List ℕ) → length stream ≤ n → length stream ≤ m → frames_up_to n limit stream ≡ frames_up_to m limit stream
enough zero zero limit stream p q = refl
enough zero (suc m) limit stream p q = by_front (front limit stream) (frames_up_to zero limit stream ≡ frames_up_to (suc m) limit stream)
    (λ size e. absurd (let s = sized_as limit stream (IsWhole size) e in omega (arith, s.0.long, p)))
    (λ size e. rw (e, frames_up_to) refl) (λ e. rw (e, frames_up_to) refl)
enough (suc n) zero limit stream p q = by_front (front limit stream) (frames_up_to (suc n) limit stream ≡ frames_up_to zero limit stream)
    (λ size e. absurd (let s = sized_as limit stream (IsWhole size) e in omega (arith, s.0.long, q)))
    (λ size e. rw (e, frames_up_to) refl) (λ e. rw (e, frames_up_to) refl)
enough (suc n) (suc m) limit stream p q = by_front (front limit stream) (frames_up_to (suc n) limit stream ≡ frames_up_to (suc m) limit stream)
    (λ size e. let s = sized_as limit stream (IsWhole size) e in
    let good = good_size limit size s.0.judged in
    rw (e, frames_up_to) (ap (λ (fs : List (List ℕ)). take size stream ∷ fs) (enough n m limit (drop size stream) (omega (arith, length-drop size stream, good.0, s.0.long, p)) (omega (arith, length-drop size stream, good.0, s.0.long, q)))))
    (λ size e. rw (e, frames_up_to) refl) (λ e. rw (e, frames_up_to) refl)

looked_for : (n limit : ℕ) (stream : List ℕ) → length stream ≤ n → frames limit stream ≡ frames_up_to n limit stream
unfolding frames
looked_for n limit stream le = enough (length stream) n limit stream (omega arith) le

-- one step

pub frames_step : (limit : ℕ) (stream : List ℕ) (size : ℕ) → front limit stream ≡ IsWhole size → frames limit stream ≡ take size stream ∷ frames limit (drop size stream)
frames_step limit stream size e =
    let more : frames_up_to (suc (length stream)) limit stream ≡ take size stream ∷ frames_up_to (length stream) limit (drop size stream) = rw (e, frames_up_to) refl in
    looked_for (suc (length stream)) limit stream (omega arith) ∙ more ∙ ap (λ (fs : List (List ℕ)). take size stream ∷ fs) (sym (looked_for (length stream) limit (drop size stream) (omega (arith, length-drop size stream))))

pub frames_bad : (limit : ℕ) (stream : List ℕ) (size : ℕ) → front limit stream ≡ IsBad size → frames limit stream ≡ []
frames_bad limit stream size e =
    let none : frames_up_to (suc (length stream)) limit stream ≡ [] = rw (e, frames_up_to) refl in
    looked_for (suc (length stream)) limit stream (omega arith) ∙ none

pub frames_short : (limit : ℕ) (stream : List ℕ) → front limit stream ≡ IsShort → frames limit stream ≡ []
frames_short limit stream e =
    let none : frames_up_to (suc (length stream)) limit stream ≡ [] = rw (e, frames_up_to) refl in
    looked_for (suc (length stream)) limit stream (omega arith) ∙ none

pub frame_then : (limit : ℕ) (frame rest : List ℕ) → IsWithin limit frame → frames limit (frame ++ rest) ≡ frame ∷ frames limit rest
frame_then limit frame rest is =
    frames_step limit (frame ++ rest) (length frame) (frame_front limit frame rest is)
    ∙ ap (λ (f : List ℕ). f ∷ frames limit (drop (length frame) (frame ++ rest))) (take_at frame rest (length frame) refl)
    ∙ ap (λ (r : List ℕ). frame ∷ frames limit r) (drop_at frame rest (length frame) refl)

-- ---- the laws

pub handed_then : (limit : ℕ) (handed : List (List ℕ)) (rest : List ℕ) → AllByRecursion (IsWithin limit) handed → frames limit (concat handed ++ rest) ≡ handed ++ frames limit rest
handed_then limit [] rest each = refl
handed_then limit (frame ∷ handed) rest each =
    ap (frames limit) (append_assoc frame (concat handed) rest) ∙ frame_then limit frame (concat handed ++ rest) each.0 ∙ ap (λ (fs : List (List ℕ)). frame ∷ fs) (handed_then limit handed rest each.1)

record Split (limit : ℕ) (stream : List ℕ) : Type 0 where
  rest : List ℕ
  parts : stream ≡ concat (frames limit stream) ++ rest
  none : frames limit rest ≡ []
  each : AllByRecursion (IsWithin limit) (frames limit stream)

all_rest : (limit : ℕ) (stream : List ℕ) → frames limit stream ≡ [] → Split limit stream
all_rest limit stream none = record { rest = stream; parts = rw none refl; none = none; each = rw none tt }

split_at : (n limit : ℕ) (stream : List ℕ) → length stream ≤ n → Split limit stream
split_at zero limit stream le = by_front (front limit stream) (Split limit stream)
    (λ size e. absurd (let s = sized_as limit stream (IsWhole size) e in omega (arith, s.0.long, le)))
    (λ size e. all_rest limit stream (frames_bad limit stream size e)) (λ e. all_rest limit stream (frames_short limit stream e))
split_at (suc n) limit stream le = by_front (front limit stream) (Split limit stream)
    (λ size e. let s = sized_as limit stream (IsWhole size) e in
    let good = good_size limit size s.0.judged in
    let behind = split_at n limit (drop size stream) (omega (arith, length-drop size stream, good.0, s.0.long, le)) in
    let step = frames_step limit stream size e in
    let parts : stream ≡ concat (take size stream ∷ frames limit (drop size stream)) ++ behind.rest =
    sym (take-append-drop size stream) ∙ ap (λ (r : List ℕ). take size stream ++ r) behind.parts ∙ sym (append_assoc (take size stream) (concat (frames limit (drop size stream))) behind.rest) in
    record {
      rest = behind.rest;
      parts = parts ∙ ap (λ (fs : List (List ℕ)). concat fs ++ behind.rest) (sym step);
      none = behind.none;
      each = subst (AllByRecursion (IsWithin limit)) (sym step) (front_within limit stream size e, behind.each);
    })
    (λ size e. all_rest limit stream (frames_bad limit stream size e)) (λ e. all_rest limit stream (frames_short limit stream e))

split : (limit : ℕ) (stream : List ℕ) → Split limit stream
split limit stream = split_at (length stream) limit stream (omega arith)

pub each_within : (limit : ℕ) (stream : List ℕ) → AllByRecursion (IsWithin limit) (frames limit stream)
each_within limit stream = (split limit stream).each

pub all_of_front : (limit : ℕ) (stream : List ℕ) → (rest : List ℕ) × (stream ≡ concat (frames limit stream) ++ rest) × (frames limit rest ≡ [])
all_of_front limit stream = let s = split limit stream in (s.rest, s.parts, s.none)

pub more_frames : (limit : ℕ) (stream more : List ℕ) → (others : List (List ℕ)) × (frames limit (stream ++ more) ≡ frames limit stream ++ others)
more_frames limit stream more =
    let s = split limit stream in
    let fs = frames limit stream in
    let regroup : stream ++ more ≡ concat fs ++ (s.rest ++ more) = ap (λ (bytes : List ℕ). bytes ++ more) s.parts ∙ append_assoc (concat fs) s.rest more in
    (frames limit (s.rest ++ more), ap (frames limit) regroup ∙ handed_then limit fs (s.rest ++ more) s.each)

-- ---- what a framer answers, by the stream

AllByRecursion-last : {A : Type 0} (P : A → Type 0) (xs : List A) (x : A) → AllByRecursion P xs → P x → AllByRecursion P (xs ++ x ∷ [])
AllByRecursion-last P [] x each last = (last, tt)
AllByRecursion-last P (y ∷ xs) x each last = (each.0, AllByRecursion-last P xs x each.1 last)

stream_frames : (f : Framing) (stream : List ℕ) (handed : List (List ℕ)) → HasHandedOut f stream handed → frames f.limit stream ≡ handed ++ frames f.limit f.held
stream_frames f stream handed has = ap (frames f.limit) has.parts ∙ handed_then f.limit handed f.held has.each

handed_all : (limit : ℕ) (stream held : List ℕ) (handed : List (List ℕ)) → frames limit stream ≡ handed ++ frames limit held → frames limit held ≡ [] → frames limit stream ≡ handed
handed_all limit stream held handed e none = e ∙ ap (λ (fs : List (List ℕ)). handed ++ fs) none ∙ append-nil handed

handed_one : (old new : Framing) (frame stream : List ℕ) (handed : List (List ℕ)) → IsWithin old.limit frame → HandsOut old new frame → HasHandedOut old stream handed → HasHandedOut new stream (handed ++ frame ∷ [])
handed_one old new frame stream handed within hands has =
    let joined : concat (handed ++ frame ∷ []) ≡ concat handed ++ frame = concat-append handed (frame ∷ []) ∙ ap (λ (f : List ℕ). concat handed ++ f) (append-nil frame) in
    record {
      parts = has.parts ∙ ap (λ (h : List ℕ). concat handed ++ h) hands.parts ∙ sym (append_assoc (concat handed) frame new.held) ∙ ap (λ (c : List ℕ). c ++ new.held) (sym joined);
      place = omega (arith, hands.place, has.place, ap length joined, length-append (concat handed) frame);
      each = rw hands.limit (AllByRecursion-last (IsWithin old.limit) handed frame has.each within);
    }

pub continues : (old new : Framing) (next : Next) → Answers old new next → (stream : List ℕ) (handed : List (List ℕ)) → HasHandedOut old stream handed → Continues old new next stream handed
continues old new (Whole frame) a stream handed has = (
  stream_frames old stream handed has ∙ ap (λ (fs : List (List ℕ)). handed ++ fs) (ap (frames old.limit) a.2.parts ∙ frame_then old.limit frame new.held a.1),
  handed_one old new frame stream handed a.1 a.2 has,
)
continues old new NotYet a stream handed has = handed_all old.limit stream old.held handed (stream_frames old stream handed has) (frames_short old.limit old.held a.0)
continues old new (BadSize at size) a stream handed has =
    (handed_all old.limit stream old.held handed (stream_frames old stream handed has) (frames_bad old.limit old.held size a.0), a.1 ∙ has.place)

-- how many bytes were fed
pub length_fed : (f : Framing) (stream : List ℕ) (handed : List (List ℕ)) → HasHandedOut f stream handed → length stream ≡ f.before + length f.held
length_fed f stream handed has = omega (arith, ap length has.parts, length-append (concat handed) f.held, has.place)

-- ---- what stands behind the frames of a stream

pub no_frames : (limit : ℕ) → frames limit [] ≡ []
no_frames limit = frames_short limit [] (front_none limit [] 0 refl)

-- where all of them were handed out, that is what the framer holds
pub behind_frames : (limit : ℕ) (f : Framing) (stream : List ℕ) (is : Front) → HasHandedOut f stream (frames limit stream) → front limit f.held ≡ is → front limit (drop (end_of limit stream) stream) ≡ is
behind_frames limit f stream is has e = ap (front limit) (ap (drop (end_of limit stream)) has.parts ∙ drop_at (concat (frames limit stream)) f.held (end_of limit stream) refl) ∙ e

none_left : (xs : List ℕ) → (0 < length xs → ⊥) → xs ≡ []
none_left [] none = refl
none_left (x ∷ xs) none = absurd (none (omega arith))

-- and where it holds nothing, they are the whole stream
pub all_frames : (limit : ℕ) (f : Framing) (stream : List ℕ) → HasHandedOut f stream (frames limit stream) → (0 < length f.held → ⊥) → IsFrames limit stream
all_frames limit f stream has none = has.parts ∙ ap (λ (held : List ℕ). concat (frames limit stream) ++ held) (none_left f.held none) ∙ append-nil (concat (frames limit stream))

bad_some : (limit size : ℕ) (stream : List ℕ) → front limit stream ≡ IsBad size → length stream ≡ 0 → ⊥
bad_some limit size [] bad none = let e : IsShort ≡ IsBad size = sym (front_none limit [] 0 refl) ∙ bad in (cc)
bad_some limit size (b ∷ stream) bad none = absurd (omega (arith, none))

-- no frame stands behind a bad size
frames_stay : (limit size : ℕ) (stream more behind : List ℕ) → stream ≡ concat (frames limit stream) ++ behind → front limit behind ≡ IsBad size → frames limit (stream ++ more) ≡ frames limit stream
frames_stay limit size stream more behind parts bad =
    ap (λ (bytes : List ℕ). frames limit (bytes ++ more)) parts
    ∙ ap (frames limit) (append_assoc (concat (frames limit stream)) behind more)
    ∙ handed_then limit (frames limit stream) (behind ++ more) (each_within limit stream)
    ∙ ap (λ (fs : List (List ℕ)). frames limit stream ++ fs) (frames_bad limit (behind ++ more) size (bad_stays limit size behind more bad))
    ∙ append-nil (frames limit stream)

-- so that no front of whole frames has one
pub no_bad_size : (limit size : ℕ) (whole stream more : List ℕ) → IsFrames limit whole → whole ≡ stream ++ more → HasBadSize limit stream size → ⊥
no_bad_size limit size whole stream more is parts has =
    let s = all_of_front limit stream in
    let fs = frames limit stream in
    let behind : drop (end_of limit stream) stream ≡ s.0 = ap (drop (end_of limit stream)) s.1 ∙ drop_at (concat fs) s.0 (end_of limit stream) refl in
    let bad : front limit s.0 ≡ IsBad size = ap (front limit) (sym behind) ∙ has in
    let same : frames limit whole ≡ fs = ap (frames limit) parts ∙ frames_stay limit size stream more s.0 s.1 bad in
    let long : length whole ≡ length (concat fs) = ap length is ∙ ap (λ (gs : List (List ℕ)). length (concat gs)) same in
    bad_some limit size s.0 bad (omega (arith, long, ap length parts, length-append stream more, ap length s.1, length-append (concat fs) s.0))

-- ---- one step of a framer

-- a whole frame at the front is handed out
pub taken_out : (f : Framing) (size : ℕ) (frame : List ℕ) → front f.limit f.held ≡ IsWhole size → frame ≡ take size f.held → Answers f (passed f size) (Whole frame)
taken_out f size frame e is =
    let s = sized_as f.limit f.held (IsWhole size) e in
    let len : length frame ≡ size = omega (arith, ap length is, length-take size f.held, s.1) in (
      e ∙ ap (λ (n : ℕ). IsWhole n) (sym len),
      subst (IsWithin f.limit) (sym is) (front_within f.limit f.held size e),
      record {
        parts = sym (take-append-drop size f.held) ∙ ap (λ (g : List ℕ). g ++ drop size f.held) (sym is);
        place = omega (arith, len);
        limit = refl;
      },
    )

-- what is taken off the front of what is held
pub taken_off : (limit before at size : ℕ) (bytes frame : List ℕ) → front limit (drop at bytes) ≡ IsWhole size → frame ≡ take size (drop at bytes)
    → Answers (record { limit = limit; before = before; held = drop at bytes }) (record { limit = limit; before = before + size; held = drop (at + size) bytes }) (Whole frame)
taken_off limit before at size bytes frame e is =
    let held = drop at bytes in
    let s = sized_as limit held (IsWhole size) e in
    let len : length frame ≡ size = omega (arith, ap length is, length-take size held, s.1) in
    let rest : drop (at + size) bytes ≡ drop size held = sym (drop-drop size at bytes) in (
      e ∙ ap (λ (n : ℕ). IsWhole n) (sym len),
      subst (IsWithin limit) (sym is) (front_within limit held size e),
      record {
        parts = sym (take-append-drop size held) ∙ ap (λ (f : List ℕ). f ++ drop size held) (sym is) ∙ ap (λ (r : List ℕ). frame ++ r) (sym rest);
        place = omega (arith, len);
        limit = refl;
      },
    )

-- what is shown of it
pub shows_whole : (f : Framing) (size : ℕ) (frame : List ℕ) → front f.limit f.held ≡ IsWhole size → frame ≡ take size f.held → (front f.limit f.held ≡ IsWhole (length frame)) × (frame ≡ take (length frame) f.held) × IsWithin f.limit frame
shows_whole f size frame e is =
    let s = sized_as f.limit f.held (IsWhole size) e in
    let len : length frame ≡ size = omega (arith, ap length is, length-take size f.held, s.1) in
    (e ∙ ap (λ (n : ℕ). IsWhole n) (sym len), is ∙ ap (λ (n : ℕ). take n f.held) (sym len), subst (IsWithin f.limit) (sym is) (front_within f.limit f.held size e))

pub shows_next : (f : Framing) (size : ℕ) (frame : List ℕ) → front f.limit f.held ≡ IsWhole size → frame ≡ take size f.held → (stream : List ℕ) (handed : List (List ℕ)) → HasHandedOut f stream handed
    → frames f.limit stream ≡ handed ++ frame ∷ frames f.limit (drop (length frame) f.held)
shows_next f size frame e is stream handed has =
    let w = shows_whole f size frame e is in
    (continues f (passed f (length frame)) (Whole frame) (taken_out f (length frame) frame w.0 w.1) stream handed has).0

pub shows_bad : (f : Framing) (size : ℕ) → front f.limit f.held ≡ IsBad size → (stream : List ℕ) (handed : List (List ℕ)) → HasHandedOut f stream handed → (frames f.limit stream ≡ handed) × (f.before ≡ length (concat handed))
shows_bad f size e stream handed has = continues f f (BadSize f.before size) (e, refl, refl) stream handed has

pub shows_none : (f : Framing) → front f.limit f.held ≡ IsShort → (stream : List ℕ) (handed : List (List ℕ)) → HasHandedOut f stream handed → frames f.limit stream ≡ handed
shows_none f e stream handed has = continues f f NotYet (e, refl) stream handed has

abbrev size_in : Front → ℕ
size_in (IsWhole size) = size
size_in (IsBad size) = 0
size_in IsShort = 0

pub same_size : (limit n size : ℕ) (held : List ℕ) → front limit held ≡ IsWhole n → front limit held ≡ IsWhole size → n ≡ size
same_size limit n size held p q = ap size_in (sym p ∙ q)

-- it is handed out
pub dropped_one : (f new : Framing) (n size : ℕ) → front f.limit f.held ≡ IsWhole n → new ≡ passed f n → (stream : List ℕ) (handed : List (List ℕ)) → front f.limit f.held ≡ IsWhole size → HasHandedOut f stream handed
    → HasHandedOut new stream (handed ++ take size f.held ∷ [])
dropped_one f new n size e is stream handed also has =
    let one = (continues f (passed f n) (Whole (take n f.held)) (taken_out f n (take n f.held) e refl) stream handed has).1 in
    subst (λ (g : Framing). HasHandedOut g stream (handed ++ take size f.held ∷ [])) (sym is)
    (subst (λ (k : ℕ). HasHandedOut (passed f n) stream (handed ++ take k f.held ∷ [])) (same_size f.limit n size f.held e also) one)

-- the stream goes on by a piece
pub fed_more : (f new : Framing) (stream piece : List ℕ) (handed : List (List ℕ)) → HasHandedOut f stream handed → new ≡ with_more f piece → HasHandedOut new (stream ++ piece) handed
fed_more f new stream piece handed has is =
    subst (λ (g : Framing). HasHandedOut g (stream ++ piece) handed) (sym is) (record {
      parts = ap (λ (s : List ℕ). s ++ piece) has.parts ∙ append_assoc (concat handed) f.held piece;
      place = has.place;
      each = has.each;
    })

-- where no frame is whole and no size is bad, less is held than a frame may have
pub short_there : (limit : ℕ) (held : List ℕ) → 7 ≤ limit → front limit held ≡ IsShort → length held < limit
short_there limit held least e = elim (cases_lt (length held) 4) [
  | inl lt ↦ omega (arith, lt, least)
  | inr le ↦ let size = from_le_bytes w32 (take 4 held) in elim (cases_Bool (is_bad limit size)) [
    | inl bad ↦ let is : IsBad size ≡ IsShort = sym (front_bad limit held size 4 (number_there held le) bad) ∙ e in absurd (cc)
    | inr good ↦ elim (cases_Bool (leb size (length held))) [
      | inl there ↦ let is : IsWhole size ≡ IsShort = sym (front_whole limit held size 4 (number_there held le) good there) ∙ e in absurd (cc)
      | inr short ↦ let most = (good_size limit size good).1 in omega (arith, most, leb-false _ _ short)
    ]
  ]
]

pub whole_there : (limit : ℕ) (held : List ℕ) (size : ℕ) → front limit held ≡ IsWhole size → size ≤ length held
whole_there limit held size e = (sized_as limit held (IsWhole size) e).1
