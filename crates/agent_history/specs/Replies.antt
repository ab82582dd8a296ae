-- Replies and the reads that wait for one, read off a list of deeds. After section 5 of the Plan 9 manual (intro, read,
-- flush, clunk, version): a tag is a request's until its reply, and a flush gives it up.
use Rattle.std.specs.Prelude.{ℕ, ◌+◌, List, [], ◌∷◌, ◌++◌, length, drop, map, filter, find, reverse, Bool, false, not, ◌&&◌, ◌||◌, ◌==◌, nat_lt, Option, Some, None, is_some, option_map, codes, if◌then◌else◌}
use Rattle.std.specs.List.{list_any, filter_map}
use Rattle.nine.specs.declared.message.RMsg.{RMsg}
use Rattle.nine.specs.declared.message.RBody.{RBody}
use Rattle.nine.specs.declared.message.RBody.TheVariants.{Error}
use Rattle.agent_history.specs.Deeds.{Deed, OfFids, OfReplies, OfConnection, Swept, Halted, Versioned, Clunked, Answered, Awaited, Settled, Flushed, Taken, Hung}

-- ---- reads that wait

-- a read that waits: its tag, its fid, how many bytes its reply may hold, and the reply once it is settled
pub record Wait : Type 0 where
  pub tag : ℕ
  pub fid : ℕ
  pub count : ℕ
  pub reply : Option RBody

-- it isn't settled
abbrev pub is_unsettled : Wait → Bool
is_unsettled wait = not (is_some wait.reply)

-- settled by a reply; the first one stays
abbrev pub first_of : RBody → Option RBody → Option RBody
first_of body None = Some body
first_of body (Some first) = Some first

abbrev pub settled_by : RBody → Wait → Wait
settled_by body wait = record { tag = wait.tag; fid = wait.fid; count = wait.count; reply = first_of body wait.reply }

-- the first read of a tag is settled: no two that wait on a connection have the same
abbrev pub settle_tag : ℕ → RBody → List Wait → List Wait
settle_tag tag body [] = []
settle_tag tag body (wait ∷ more) =
    if wait.tag == tag then settled_by body wait ∷ more
    else wait ∷ settle_tag tag body more

-- a read is settled where it is one of a fid
abbrev pub settle_fid : ℕ → RBody → Wait → Wait
settle_fid fid body wait = if wait.fid == fid then settled_by body wait else wait

-- what a read is told whose fid is given up while it waits
abbrev pub fid_given_up : RBody
fid_given_up = Error (codes "unknown fid")

-- what a read is told that may hold less than what there is to read
abbrev pub too_small : RBody
too_small = Error (codes "read too small")

-- the reads of a connection that wait, in the order in which they came
abbrev pub waits : List Deed → ℕ → List Wait
waits [] conn = []
waits (OfReplies at (Awaited tag fid count) ∷ before) conn =
    if at == conn then waits before conn ++ record { tag = tag; fid = fid; count = count; reply = None } ∷ []
    else waits before conn
waits (OfReplies at (Settled tag body) ∷ before) conn =
    if at == conn then settle_tag tag body (waits before conn)
    else waits before conn
waits (OfReplies at (Flushed tag) ∷ before) conn =
    if at == conn then filter (λ wait. not (wait.tag == tag)) (waits before conn)
    else waits before conn
waits (OfFids at (Versioned msize) ∷ before) conn = if at == conn then [] else waits before conn
waits (OfFids at (Clunked fid) ∷ before) conn =
    if at == conn then map (settle_fid fid fid_given_up) (waits before conn)
    else waits before conn
waits (OfConnection at Hung ∷ before) conn = if at == conn then [] else waits before conn
waits (Swept ∷ before) conn = filter is_unsettled (waits before conn)
waits (Halted ∷ before) conn = []
waits (deed ∷ before) conn = waits before conn

-- a read of the connection waits under the tag, or for the fid
abbrev pub waits_under : List Deed → ℕ → ℕ → Bool
waits_under done conn tag = list_any (λ wait. wait.tag == tag) (waits done conn)

abbrev pub waits_for : List Deed → ℕ → ℕ → Bool
waits_for done conn fid = list_any (λ wait. wait.fid == fid) (waits done conn)

-- the first read of a fid that waits and isn't settled
abbrev pub reader : List Deed → ℕ → ℕ → Option Wait
reader done conn fid = find (λ wait. wait.fid == fid && is_unsettled wait) (waits done conn)

-- some read was settled since the last sweep
abbrev pub has_settled : List Deed → Bool
has_settled [] = false
has_settled (OfReplies at (Settled tag body) ∷ before) = waits_under before at tag || has_settled before
has_settled (OfFids at (Clunked fid) ∷ before) = waits_for before at fid || has_settled before
has_settled (Swept ∷ before) = false
has_settled (Halted ∷ before) = false
has_settled (deed ∷ before) = has_settled before

-- the deeds of an event are swept where it settled something
abbrev pub swept : List Deed → List Deed
swept done = if has_settled done then Swept ∷ done else done

-- ---- replies

-- the reply to a read that is settled
abbrev pub reply_in : Wait → Option RMsg
reply_in wait = option_map (λ body. record { tag = wait.tag; body = body }) wait.reply

-- the replies that a connection was given, the newest first
abbrev pub replies : List Deed → ℕ → List RMsg
replies [] conn = []
replies (OfReplies at (Answered tag body) ∷ before) conn =
    if at == conn then record { tag = tag; body = body } ∷ replies before conn
    else replies before conn
replies (Swept ∷ before) conn = reverse (filter_map reply_in (waits before conn)) ++ replies before conn
replies (deed ∷ before) conn = replies before conn

-- how many of them were taken
abbrev pub taken : List Deed → ℕ → ℕ
taken [] conn = 0
taken (OfReplies at Taken ∷ before) conn =
    if at == conn && nat_lt (taken before conn) (length (replies before conn)) then taken before conn + 1
    else taken before conn
taken (deed ∷ before) conn = taken before conn

-- the replies that are left to take, the oldest first
abbrev pub untaken : List Deed → ℕ → List RMsg
untaken done conn = drop (taken done conn) (reverse (replies done conn))
