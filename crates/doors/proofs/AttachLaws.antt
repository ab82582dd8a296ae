-- That attaches are granted only where the conversation of their afid vouches.
use Rattle.std.proofs.Common.{◌≡◌, ℕ, List, ◌∷◌, [], Bool, true, false, None, Some, Option, refl, sym, subst}
use Rattle.std.specs.Prelude.{Result, Ok, Err, not, ◌&&◌, is_none, codes, if◌then◌else◌}
use Rattle.std.specs.Str.{bytes_eq}
use Rattle.std.proofs.lemmas.Slice.Eq.{bytes_eq-Decides}
use Rattle.nine.specs.declared.qid.Qid.{Qid}
use Rattle.nine.specs.declared.message.TBody.{TBody}
use Rattle.nine.specs.declared.message.TBody.TheVariants as t
use Rattle.nine.specs.declared.message.RBody.{RBody}
use Rattle.nine.specs.declared.message.RBody.TheVariants as r
use Rattle.wire_base.specs.Rules.{first_told}
use Rattle.wire_base.specs.declared.name.AuthInfo.{AuthInfo}
use Rattle.sealing.specs.InfoReading.{info_reading}
use Rattle.agent_history.specs.Requests.{comes_first}
use Rattle.doors.specs.declared.fid.AuthFid.{AuthFid}
use Rattle.doors.specs.declared.fid.Names.{Names}
use Rattle.doors.specs.declared.fid.Names.TheVariants.{File, Conversation}
use Rattle.doors.specs.declared.fid.Held.{Held}
use Rattle.doors.specs.Calls.{PortCall, Heard, Well, Ended, Else, Lost, info_request}
use Rattle.doors.specs.Fids.{is_full, is_held, named}
use Rattle.doors.specs.Deeds.{Deed, held_in, msize_of}
use Rattle.doors.specs.Requests.{AsksFor, IsAsked, OfNames, accepts, authenticates, granted_body, heard_in, is_for, refusal, reply_for, reply_of, vouches}
use Rattle.doors.specs.declared.file.DoorFile.TheVariants.{Root}
use Rattle.doors.specs.Tree.{qid_of}
use Rattle.doors.specs.Attaching.{Accepted, AttachesAreVouchedFor, Vouched}

-- of four tests none holds
last_two : (a b c d : Bool) (s t u v : List ℕ) → first_told ((a, s) ∷ (b, t) ∷ (c, u) ∷ (d, v) ∷ []) ≡ None → (c ≡ false) × (d ≡ false)
last_two true b c d s t u v e = absurd cc
last_two false true c d s t u v e = absurd cc
last_two false false true d s t u v e = absurd cc
last_two false false false true s t u v e = absurd cc
last_two false false false false s t u v e = (refl, refl)

both : (a b : Bool) → not (a && b) ≡ false → (a ≡ true) × (b ≡ true)
both true true e = (refl, refl)
both true false e = absurd cc
both false b e = absurd cc

-- what an afid names that passes both tests
named_so : (names : Option Names) (uname aname : List ℕ) → is_none (authenticates names) ≡ false → not (is_for uname aname (authenticates names)) ≡ false
    → (a : AuthFid) × (names ≡ Some (Conversation a)) × (a.uname ≡ uname) × (a.aname ≡ aname)
named_so None uname aname some for = absurd cc
named_so (Some (File f)) uname aname some for = absurd cc
named_so (Some (Conversation a)) uname aname some for =
    let so = both (bytes_eq a.uname uname) (bytes_eq a.aname aname) for in
    (a, refl, (bytes_eq-Decides a.uname uname).0 so.0, (bytes_eq-Decides a.aname aname).0 so.1)

-- an answer by which a user is vouched for
accepted_by : (uname bytes : List ℕ) (read : Result AuthInfo ℕ) → info_reading bytes ≡ read → accepts uname read ≡ true → Accepted uname (Well bytes)
accepted_by uname bytes (Ok info) is vouched = record { bytes = bytes; info = info; well = refl; told = is; user = (bytes_eq-Decides info.suid uname).0 vouched }
accepted_by uname bytes (Err at) is vouched = absurd cc

accepted : (uname : List ℕ) (heard : Heard) → vouches uname heard ≡ true → Accepted uname heard
accepted uname (Well bytes) vouched = accepted_by uname bytes (info_reading bytes) refl vouched
accepted uname Ended vouched = absurd cc
accepted uname (Else answer) vouched = absurd cc
accepted uname Lost vouched = absurd cc

granted_reply : (b : Bool) (given qid : Qid) (text : List ℕ) → (if b then r.Attach given else r.Error text) ≡ r.Attach qid → b ≡ true
granted_reply true given qid text e = refl
granted_reply false given qid text e = absurd cc

asked_of : (asks : AuthFid → List PortCall → Type 0) (names : Option Names) (a : AuthFid) (calls : List PortCall) → names ≡ Some (Conversation a) → OfNames asks names calls → asks a calls
asked_of asks names a calls is asked = subst (λ o. OfNames asks o calls) is asked

-- the request, as the tests have it
abbrev tested : Bool → Option (List ℕ) → TBody → Result TBody (List ℕ)
tested lacks told body = if lacks then Err (codes "no version") else elim told [ Some text ↦ Err text | None ↦ Ok body ]

-- one that was attached passed its tests, and its conversation vouches
attached : (done : List Deed) (fid afid : ℕ) (uname aname : List ℕ) (calls : List PortCall) (qid : Qid) (lacks : Bool) (told : Option (List ℕ))
    → told ≡ refusal (held_in done) (t.Attach fid afid uname aname)
    → AsksFor done (tested lacks told (t.Attach fid afid uname aname)) calls
    → reply_for done (tested lacks told (t.Attach fid afid uname aname)) calls ≡ r.Attach qid
    → Vouched (held_in done) afid uname aname calls
unfolding refusal reply_of
attached done fid afid uname aname calls qid true told is asks e = absurd cc
attached done fid afid uname aname calls qid false (Some text) is asks e = absurd cc
attached done fid afid uname aname calls qid false None is asks e =
    let all = held_in done in
    let passed = last_two (is_held fid all) (is_full all) (is_none (authenticates (named afid all))) (not (is_for uname aname (authenticates (named afid all)))) (codes "fid in use") (codes "too many fids") (codes "authentication required") (codes "wrong attach") (sym is) in
    let so = named_so (named afid all) uname aname passed.0 passed.1 in
    record {
      conversation = so.0;
      held = so.1;
      user = so.2;
      tree = so.3;
      asked = asked_of (λ a. IsAsked a.conv info_request) (named afid all) so.0 calls so.1 asks;
      accepted = accepted uname (heard_in calls) (granted_reply (vouches uname (heard_in calls)) (qid_of Root) qid (codes "not authenticated") e);
    }

pub attaches_are_vouched_for : AttachesAreVouchedFor
attaches_are_vouched_for done fid afid uname aname calls qid asks e =
    attached done fid afid uname aname calls qid (not (comes_first (t.Attach fid afid uname aname)) && is_none (msize_of done)) (refusal (held_in done) (t.Attach fid afid uname aname)) refl asks e
