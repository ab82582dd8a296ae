-- What is kept of the replies of one connection, and how it changes: the frames that weren't taken yet, and the reads
-- that wait for one. After section 5 of the Plan 9 manual (intro, read, flush, clunk).
use Rattle.std.specs.Prelude.{ℕ, List, [], ◌∷◌, ◌++◌, map, filter, drop, Bool, true, false, not, ◌&&◌, ◌==◌, Option, Some, None, is_some, if◌then◌else◌}
use Rattle.std.specs.List.{list_any, filter_map}
use Rattle.mailboxes.specs.declared.wait.Read.{Read}

-- a read that waits: its tag, its fid, how many bytes its reply may hold, and the frame of its reply once it is settled
pub record Pending : Type 0 where
  pub tag : ℕ
  pub fid : ℕ
  pub count : ℕ
  pub reply : Option (List ℕ)

-- the frames, the oldest first; the reads that wait, in the order in which they came; whether there is room for one
-- more frame, beside that for the replies to the reads that wait; and whether there is for one more read that waits
pub record Mail : Type 0 where
  pub replies : List (List ℕ)
  pub waits : List Pending
  pub has_room : Bool
  pub has_place : Bool

abbrev pub no_mail : Mail
no_mail = record { replies = []; waits = []; has_room = false; has_place = false }

-- ---- reads that wait

-- of the code alone: what stands behind the last of a list
abbrev pub no_wait : Pending
no_wait = record { tag = 0; fid = 0; count = 0; reply = None }

abbrev pub is_unsettled : Pending → Bool
is_unsettled wait = not (is_some wait.reply)

-- the first reply stays
abbrev pub first_of : List ℕ → Option (List ℕ) → Option (List ℕ)
first_of frame None = Some frame
first_of frame (Some first) = Some first

abbrev pub settled_by : List ℕ → Pending → Pending
settled_by frame wait = record { tag = wait.tag; fid = wait.fid; count = wait.count; reply = first_of frame wait.reply }

-- the first read of a tag is settled
abbrev pub settle_tag : ℕ → List ℕ → List Pending → List Pending
settle_tag tag frame [] = []
settle_tag tag frame (wait ∷ more) =
    if wait.tag == tag then settled_by frame wait ∷ more
    else wait ∷ settle_tag tag frame more

-- a read is settled where it is one of a fid, by a frame that its tag gives
abbrev pub settle_fid : ℕ → (ℕ → List ℕ) → Pending → Pending
settle_fid fid frame wait = if wait.fid == fid then settled_by (frame wait.tag) wait else wait

abbrev pub has_tag : ℕ → List Pending → Bool
has_tag tag waits = list_any (λ wait. wait.tag == tag) waits

abbrev pub has_fid : ℕ → List Pending → Bool
has_fid fid waits = list_any (λ wait. wait.fid == fid) waits

-- the first that is one of a fid and isn't settled
abbrev pub is_reader : ℕ → Pending → Bool
is_reader fid wait = wait.fid == fid && is_unsettled wait

abbrev pub read_of : Pending → Read
read_of wait = record { tag = wait.tag; fid = wait.fid; count = wait.count }

abbrev pub first_reader : ℕ → List Pending → Option Read
first_reader fid [] = None
first_reader fid (wait ∷ more) = if is_reader fid wait then Some (read_of wait) else first_reader fid more

-- ---- changes

abbrev pub with_room : Mail → Mail
with_room mail = record mail { has_room = true }

abbrev pub with_place : Mail → Mail
with_place mail = record mail { has_place = true }

-- a frame stands last
abbrev pub pushed : List ℕ → Mail → Mail
pushed frame mail = record {
  replies = mail.replies ++ frame ∷ [];
  waits = mail.waits;
  has_room = false;
  has_place = mail.has_place;
}

-- the oldest frame is gone
abbrev pub popped : Mail → Mail
popped mail = record mail { replies = drop 1 mail.replies }

abbrev pub awaited : ℕ → ℕ → ℕ → Mail → Mail
awaited tag fid count mail = record mail {
  waits = mail.waits
      ++ record { tag = tag; fid = fid; count = count; reply = None } ∷ [];
  has_place = false;
}

abbrev pub with_settled : ℕ → List ℕ → Mail → Mail
with_settled tag frame mail = record mail { waits = settle_tag tag frame mail.waits }

abbrev pub with_fid_settled : ℕ → (ℕ → List ℕ) → Mail → Mail
with_fid_settled fid frame mail = record mail { waits = map (settle_fid fid frame) mail.waits }

abbrev pub flushed : ℕ → Mail → Mail
flushed tag mail = record mail { waits = filter (λ wait. not (wait.tag == tag)) mail.waits }

abbrev pub without_waits : Mail → Mail
without_waits mail = record mail { waits = [] }

-- the frames to the reads that are settled stand last, in the order in which the reads came
abbrev pub swept : Mail → Mail
swept mail = record {
  replies = mail.replies ++ filter_map (λ wait. wait.reply) mail.waits;
  waits = filter is_unsettled mail.waits;
  has_room = mail.has_room;
  has_place = mail.has_place;
}
