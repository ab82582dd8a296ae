-- Lists of reads that wait, as the code keeps them and as what they stand for.
use Rattle.std.proofs.Common.{◌≡◌, ℕ, suc, zero, ◌+◌, ◌<◌, ◌≤◌, List, [], ◌∷◌, ◌++◌, length, get_or, map, filter, Bool, true, false, cond, not, eqb, ◌||◌, ◌==◌, Option, Some, None, refl, sym, ap, ◌∙◌, inl, inr, arith}
use Rattle.std.specs.Prelude.{is_some, option_map, position, slice_set}
use Rattle.std.specs.List.{list_any, filter_map, position_or_len, remove}
use Rattle.std.specs.Option.{option_to_list}
use Rattle.std.proofs.lemmas.Bool.{cases_Bool, cases_lt, le-ltb, lt-ltb}
use Rattle.mailboxes.specs.declared.wait.Wait.{Wait}
use Rattle.mailboxes.specs.Mails.{Pending, is_unsettled, is_reader, first_reader, read_of, settled_by, settle_tag, has_tag, has_fid}
use Rattle.mailboxes.specs.declared.wait.Read.{Read}
use Rattle.mailboxes.specs.declared.reply.Reply.{Reply}
use Rattle.mailboxes.specs.Kept.{pending_of, reader_in, reply_bytes}

pub tags_of : (tag : ℕ) (waits : List Wait) → has_tag tag (map pending_of waits) ≡ list_any (λ wait. wait.tag == tag) waits
tags_of tag [] = refl
tags_of tag (wait ∷ waits) = ap (λ (b : Bool). (wait.tag == tag) || b) (tags_of tag waits)

pub fids_of : (fid : ℕ) (waits : List Wait) → has_fid fid (map pending_of waits) ≡ list_any (λ wait. wait.fid == fid) waits
fids_of fid [] = refl
fids_of fid (wait ∷ waits) = ap (λ (b : Bool). (wait.fid == fid) || b) (fids_of fid waits)

pub reader_of : (fid : ℕ) (waits : List Wait) → first_reader fid (map pending_of waits) ≡ reader_in fid waits
reader_of fid [] = refl
reader_of fid (wait ∷ waits) = ap (λ (o : Option Read). cond (is_reader fid (pending_of wait)) (Some (read_of (pending_of wait))) o) (reader_of fid waits)

pub flushed_of : (tag : ℕ) (waits : List Wait) → map pending_of (filter (λ wait. not (wait.tag == tag)) waits) ≡ filter (λ wait. not (wait.tag == tag)) (map pending_of waits)
flushed_of tag [] = refl
flushed_of tag (wait ∷ waits) = elim (cases_Bool (eqb wait.tag tag)) [
  | inl is ↦ rw (is, flushed_of tag waits) refl
  | inr is ↦ rw (is, flushed_of tag waits) refl
]

-- ---- the first read of a tag

abbrev at_tag : ℕ → Wait → Bool
at_tag tag wait = wait.tag == tag

settle_at : (tag : ℕ) (frame : List ℕ) (waits : List Wait) (now d : Wait) (n : ℕ) → n ≡ position_or_len (at_tag tag) waits → n < length waits → pending_of now ≡ settled_by frame (pending_of (get_or waits n d))
    → map pending_of (slice_set waits n now) ≡ settle_tag tag frame (map pending_of waits)
settle_at tag frame [] now d n e lt h = absurd (omega (arith, lt))
settle_at tag frame (wait ∷ waits) now d n e lt h = elim (cases_Bool (eqb wait.tag tag)) [
  | inl is ↦
      let z : n ≡ 0 = e ∙ rw is refl in
      let here : pending_of now ≡ settled_by frame (pending_of wait) = rw z at h in
      rw (z, is) (ap (λ (p : Pending). p ∷ map pending_of waits) here)
  | inr is ↦
      let s : n ≡ suc (position_or_len (at_tag tag) waits) = e ∙ rw is (omega arith) in
      let there : pending_of now ≡ settled_by frame (pending_of (get_or waits (position_or_len (at_tag tag) waits) d)) = rw s at h in
      rw (s, is) (ap (λ (ps : List Pending). pending_of wait ∷ ps) (settle_at tag frame waits now d (position_or_len (at_tag tag) waits) refl (omega (arith, lt, s)) there))
]

none_at : (tag : ℕ) (frame : List ℕ) (waits : List Wait) → length waits ≤ position_or_len (at_tag tag) waits → settle_tag tag frame (map pending_of waits) ≡ map pending_of waits
none_at tag frame [] le = refl
none_at tag frame (wait ∷ waits) le = elim (cases_Bool (eqb wait.tag tag)) [
  | inl is ↦ absurd (let z : length (wait ∷ waits) ≤ 0 = rw is at le in omega (arith, z))
  | inr is ↦
      let s : length (wait ∷ waits) ≤ 1 + position_or_len (at_tag tag) waits = rw is at le in
      rw is (ap (λ (ps : List Pending). pending_of wait ∷ ps) (none_at tag frame waits (omega (arith, s))))
]

some_has : (tag : ℕ) (waits : List Wait) → position_or_len (at_tag tag) waits < length waits → has_tag tag (map pending_of waits) ≡ true
some_has tag [] lt = absurd (omega (arith, lt))
some_has tag (wait ∷ waits) lt = elim (cases_Bool (eqb wait.tag tag)) [
  | inl is ↦ rw is refl
  | inr is ↦
      let s : 1 + position_or_len (at_tag tag) waits < length (wait ∷ waits) = rw is at lt in
      rw is (some_has tag waits (omega (arith, s)))
]

none_has : (tag : ℕ) (waits : List Wait) → length waits ≤ position_or_len (at_tag tag) waits → has_tag tag (map pending_of waits) ≡ false
none_has tag [] le = refl
none_has tag (wait ∷ waits) le = elim (cases_Bool (eqb wait.tag tag)) [
  | inl is ↦ absurd (let z : length (wait ∷ waits) ≤ 0 = rw is at le in omega (arith, z))
  | inr is ↦
      let s : length (wait ∷ waits) ≤ 1 + position_or_len (at_tag tag) waits = rw is at le in
      rw is (none_has tag waits (omega (arith, s)))
]

-- the place that `position` gives, and that it gives none
position_is : (tag : ℕ) (waits : List Wait) (at : ℕ) → Some at ≡ position (at_tag tag) waits → (at ≡ position_or_len (at_tag tag) waits) × (position_or_len (at_tag tag) waits < length waits)
position_is tag waits at e =
    elim (cases_lt (position_or_len (at_tag tag) waits) (length waits)) [
      | inl lt ↦ (let s : Some at ≡ Some (position_or_len (at_tag tag) waits) = rw lt-ltb at e in let same : at ≡ position_or_len (at_tag tag) waits = cc in (same, lt))
      | inr le ↦ absurd (let s : Some at ≡ None = rw le-ltb at e in cc)
    ]

position_none : (tag : ℕ) (waits : List Wait) → None ≡ position (at_tag tag) waits → length waits ≤ position_or_len (at_tag tag) waits
position_none tag waits e =
    elim (cases_lt (position_or_len (at_tag tag) waits) (length waits)) [
      | inl lt ↦ absurd (let s : None ≡ Some (position_or_len (at_tag tag) waits) = rw lt-ltb at e in cc)
      | inr le ↦ le
    ]

pub settled_found : (tag : ℕ) (frame : List ℕ) (waits : List Wait) (now d : Wait) (at : ℕ) → Some at ≡ position (at_tag tag) waits → pending_of now ≡ settled_by frame (pending_of (get_or waits at d))
    → map pending_of (slice_set waits at now) ≡ settle_tag tag frame (map pending_of waits)
settled_found tag frame waits now d at e h = let p = position_is tag waits at e in settle_at tag frame waits now d at p.0 (omega (arith, p.0, p.1)) h

pub settled_none : (tag : ℕ) (frame : List ℕ) (waits : List Wait) → None ≡ position (at_tag tag) waits → map pending_of waits ≡ settle_tag tag frame (map pending_of waits)
settled_none tag frame waits e = sym (none_at tag frame waits (position_none tag waits e))

pub found_has : (tag : ℕ) (waits : List Wait) (at : ℕ) → Some at ≡ position (at_tag tag) waits → true ≡ has_tag tag (map pending_of waits)
found_has tag waits at e = sym (some_has tag waits (position_is tag waits at e).1)

pub none_found : (tag : ℕ) (waits : List Wait) → None ≡ position (at_tag tag) waits → false ≡ has_tag tag (map pending_of waits)
none_found tag waits e = sym (none_has tag waits (position_none tag waits e))

-- ---- the reads of a fid, the first ones of which were settled

abbrev pub settled_to : (Pending → Pending) → ℕ → List Pending → List Pending
settled_to f zero ps = ps
settled_to f (suc n) [] = []
settled_to f (suc n) (p ∷ ps) = f p ∷ settled_to f n ps

pub one_settled : (f : Pending → Pending) (waits : List Wait) (ps : List Pending) (n : ℕ) (now d : Wait) → map pending_of waits ≡ settled_to f n ps → n < length waits → pending_of now ≡ f (pending_of (get_or waits n d))
    → map pending_of (slice_set waits n now) ≡ settled_to f (suc n) ps
one_settled f [] ps n now d e lt h = absurd (omega (arith, lt))
one_settled f (wait ∷ waits) [] zero now d e lt h = absurd cc
one_settled f (wait ∷ waits) [] (suc n) now d e lt h = absurd cc
one_settled f (wait ∷ waits) (p ∷ ps) zero now d e lt h =
    let first : pending_of wait ≡ p = cc in
    let rest : map pending_of waits ≡ ps = cc in
    ap (λ (q : Pending). q ∷ map pending_of waits) (h ∙ ap f first) ∙ ap (λ (qs : List Pending). f p ∷ qs) rest
one_settled f (wait ∷ waits) (p ∷ ps) (suc n) now d e lt h =
    let first : pending_of wait ≡ f p = cc in
    let rest : map pending_of waits ≡ settled_to f n ps = cc in
    ap (λ (q : Pending). q ∷ map pending_of (slice_set waits n now)) first ∙ ap (λ (qs : List Pending). f p ∷ qs) (one_settled f waits ps n now d rest (omega (arith, lt)) h)

pub all_settled : (f : Pending → Pending) (ps : List Pending) (n : ℕ) → length ps ≤ n → settled_to f n ps ≡ map f ps
all_settled f [] zero le = refl
all_settled f [] (suc n) le = refl
all_settled f (p ∷ ps) zero le = absurd (omega (arith, le))
all_settled f (p ∷ ps) (suc n) le = ap (λ (qs : List Pending). f p ∷ qs) (all_settled f ps n (omega (arith, le)))

-- ---- a sweep, as far as it has come

abbrev pub swept_from : ℕ → List Pending → List Pending
swept_from zero ps = filter is_unsettled ps
swept_from (suc n) [] = []
swept_from (suc n) (p ∷ ps) = p ∷ swept_from n ps

abbrev pub replies_from : ℕ → List Pending → List (List ℕ)
replies_from zero ps = filter_map (λ wait. wait.reply) ps
replies_from (suc n) [] = []
replies_from (suc n) (p ∷ ps) = replies_from n ps

abbrev reply_of : Wait → Option (List ℕ)
reply_of wait = (pending_of wait).reply

unsettled_none : (o : Option (List ℕ)) → is_some o ≡ false → o ≡ None
unsettled_none None e = refl
unsettled_none (Some frame) e = absurd cc

settled_some : (o : Option (List ℕ)) → is_some o ≡ true → (frame : List ℕ) × (o ≡ Some frame)
settled_some None e = absurd cc
settled_some (Some frame) e = (frame, refl)

pub waits_kept : (waits : List Wait) (n : ℕ) (d : Wait) → n < length waits → is_some (reply_of (get_or waits n d)) ≡ false → swept_from (suc n) (map pending_of waits) ≡ swept_from n (map pending_of waits)
waits_kept [] n d lt e = absurd (omega (arith, lt))
waits_kept (wait ∷ waits) zero d lt e = rw e refl
waits_kept (wait ∷ waits) (suc n) d lt e = ap (λ (ps : List Pending). pending_of wait ∷ ps) (waits_kept waits n d (omega (arith, lt)) e)

pub replies_kept : (waits : List Wait) (n : ℕ) (d : Wait) → n < length waits → is_some (reply_of (get_or waits n d)) ≡ false → replies_from (suc n) (map pending_of waits) ≡ replies_from n (map pending_of waits)
replies_kept [] n d lt e = absurd (omega (arith, lt))
replies_kept (wait ∷ waits) zero d lt e = rw (unsettled_none (reply_of wait) e) refl
replies_kept (wait ∷ waits) (suc n) d lt e = replies_kept waits n d (omega (arith, lt)) e

pub waits_dropped : (waits : List Wait) (n : ℕ) (d : Wait) → n < length waits → is_some (reply_of (get_or waits n d)) ≡ true → swept_from n (map pending_of (remove waits n)) ≡ swept_from n (map pending_of waits)
waits_dropped [] n d lt e = absurd (omega (arith, lt))
waits_dropped (wait ∷ waits) zero d lt e = rw e refl
waits_dropped (wait ∷ waits) (suc n) d lt e = ap (λ (ps : List Pending). pending_of wait ∷ ps) (waits_dropped waits n d (omega (arith, lt)) e)

pub replies_given : (waits : List Wait) (n : ℕ) (d : Wait) (e : Pending) → n < length waits → is_some (reply_of (get_or waits n d)) ≡ true → option_to_list (get_or (map pending_of waits) n e).reply ++ replies_from n (map pending_of (remove waits n)) ≡ replies_from n (map pending_of waits)
replies_given [] n d e lt h = absurd (omega (arith, lt))
replies_given (wait ∷ waits) zero d e lt h = let s = settled_some (reply_of wait) h in rw s.1 refl
replies_given (wait ∷ waits) (suc n) d e lt h = replies_given waits n d e (omega (arith, lt)) h

pub swept_all : (ps : List Pending) (n : ℕ) → length ps ≤ n → swept_from n ps ≡ ps
swept_all [] zero le = refl
swept_all [] (suc n) le = refl
swept_all (p ∷ ps) zero le = absurd (omega (arith, le))
swept_all (p ∷ ps) (suc n) le = ap (λ (qs : List Pending). p ∷ qs) (swept_all ps n (omega (arith, le)))

pub replies_all : (ps : List Pending) (n : ℕ) → length ps ≤ n → replies_from n ps ≡ []
replies_all [] zero le = refl
replies_all [] (suc n) le = refl
replies_all (p ∷ ps) zero le = absurd (omega (arith, le))
replies_all (p ∷ ps) (suc n) le = replies_all ps n (omega (arith, le))

pub reply_some : (wait : Wait) → is_some (reply_of wait) ≡ is_some wait.reply
reply_some wait = here wait.reply
  where
    here : (o : Option Reply) → is_some (option_map reply_bytes o) ≡ is_some o
    here None = refl
    here (Some reply) = refl
