-- What requests leave, each by what its calls say.
use Rattle.std.proofs.Common.{◌≡◌, ℕ, List, [], ◌∷◌, ◌++◌, length, map, Bool, true, false, Option, Some, None, refl, sym, ap, subst, ◌∙◌}
use Rattle.std.specs.Prelude.{Result, Ok, Err, codes, not, ◌&&◌, ◌||◌, nat_le, if◌then◌else◌}
use Rattle.std.specs.Str.{bytes_eq}
use Rattle.doors.specs.Tree.{auth_qid, lead_to, qid_of, visited}
use Rattle.nine.specs.declared.message.TBody.{TBody}
use Rattle.nine.specs.declared.message.TBody.TheVariants as t
use Rattle.nine.specs.declared.message.RBody.TheVariants as r
use Rattle.agent_history.specs.Requests.{tag_of}
use Rattle.doors.specs.declared.fid.AuthFid.{AuthFid}
use Rattle.doors.specs.declared.fid.FileFid.{FileFid}
use Rattle.doors.specs.declared.fid.Held.{Held}
use Rattle.doors.specs.declared.fid.Names.{Names}
use Rattle.doors.specs.declared.fid.Names.TheVariants.{Conversation, File}
use Rattle.doors.specs.Calls.{PortCall, is_fit, is_start, most_request, start_text, write_text}
use Rattle.doors.specs.Deeds.{Deed, Became, held_in}
use Rattle.doors.specs.Fids.{begun, holds, named, opened}
use Rattle.doors.specs.Requests.{AsksFor, AsksSo, OfNames, after, after_granted, authenticates, begun_in, fid_first, file_of, granted, logging_in, login_reply, opening, refusal, reply_for, reply_of, unavailable, walk_reply, walked, walking, write_tests}
use Rattle.doors.specs.Histories.{History, deeds}
use Rattle.doors.specs.declared.connection.Connection.{Connection}
use Rattle.doors.specs.declared.door.Door.{Door}
use Rattle.doors.specs.Doors.{Answered, Carried, GivesUp, Keeps, Served, Stepped, has_failed, reply_under}

-- ---- of the fid that is asked

pub asks_none : (asks : AuthFid → List PortCall → Type 0) (names : Option Names) → authenticates names ≡ None → OfNames asks names []
asks_none asks None is = refl
asks_none asks (Some (File f)) is = refl
asks_none asks (Some (Conversation a)) is = absurd cc

pub asks_of : (asks : AuthFid → List PortCall → Type 0) (names : Option Names) (a : AuthFid) (calls : List PortCall) → authenticates names ≡ Some a → asks a calls → OfNames asks names calls
asks_of asks None a calls is h = absurd cc
asks_of asks (Some (File f)) a calls is h = absurd cc
asks_of asks (Some (Conversation b)) a calls is h = subst (λ (x : AuthFid). asks x calls) (same b a is) h
  where
    same : (b a : AuthFid) → Some b ≡ Some a → a ≡ b
    same b a e = cc

-- the same of the fids that are kept
pub asks_in : (asks : AuthFid → List PortCall → Type 0) (done : List Deed) (c : Connection) (fid : ℕ) (a : AuthFid) (calls : List PortCall) → Keeps done c → Some a ≡ authenticates (named fid c.fids) → asks a calls
    → OfNames asks (named fid (held_in done)) calls
asks_in asks done c fid a calls k is h = asks_of asks (named fid (held_in done)) a calls (subst (λ (all : List Held). authenticates (named fid all) ≡ Some a) k.held (sym is)) h

-- ---- a fid that is given up

pub clunked : {P : Type 0} (stands : List PortCall → P → Type 0) (done : List Deed) (past : List PortCall) (tag fid : ℕ) (c : Connection) (port : P) (old out : List ℕ)
    → GivesUp stands done past fid c port → out ≡ old ++ reply_under tag r.Clunk → Carried stands done past tag (t.Clunk fid) c port old out
unfolding after reply_of
clunked stands done past tag fid c port old out h o = record { calls = h.calls; asks = h.asks; told = h.told; served = record { keeps = h.keeps; said = o } }

pub removed : {P : Type 0} (stands : List PortCall → P → Type 0) (done : List Deed) (past : List PortCall) (tag fid : ℕ) (c : Connection) (port : P) (old out : List ℕ)
    → GivesUp stands done past fid c port → out ≡ old ++ reply_under tag (r.Error (codes "permission denied")) → Carried stands done past tag (t.Remove fid) c port old out
unfolding after reply_of
removed stands done past tag fid c port old out h o = record { calls = h.calls; asks = h.asks; told = h.told; served = record { keeps = h.keeps; said = o } }

-- ---- who asks nobody

pub nobody : {P : Type 0} (stands : List PortCall → P → Type 0) (done : List Deed) (past : List PortCall) (tag : ℕ) (body : TBody) (c : Connection) (port : P) (old out : List ℕ)
    → AsksSo (held_in done) body [] → stands past port → Served done tag body [] c old out → Carried stands done past tag body c port old out
nobody stands done past tag body c port old out asks told served = record { calls = []; asks = asks; told = told; served = served }

pub flushed : (done : List Deed) (tag oldtag : ℕ) (c : Connection) (old out : List ℕ) → Keeps done c → out ≡ old ++ reply_under tag r.Flush → Served done tag (t.Flush oldtag) [] c old out
unfolding after reply_of
flushed done tag oldtag c old out k o = record { keeps = k; said = o }

pub not_created : (done : List Deed) (tag fid : ℕ) (name : List ℕ) (perm mode : ℕ) (c : Connection) (old out : List ℕ) → Keeps done c → out ≡ old ++ reply_under tag (r.Error (codes "permission denied"))
    → Served done tag (t.Create fid name perm mode) [] c old out
unfolding after reply_of
not_created done tag fid name perm mode c old out k o = record { keeps = k; said = o }

pub not_changed : (done : List Deed) (tag fid : ℕ) (stat : List ℕ) (c : Connection) (old out : List ℕ) → Keeps done c → out ≡ old ++ reply_under tag (r.Error (codes "permission denied"))
    → Served done tag (t.Wstat fid stat) [] c old out
unfolding after reply_of
not_changed done tag fid stat c old out k o = record { keeps = k; said = o }

-- ---- walks and opens

pub same_file : (a b : FileFid) → Some (File a) ≡ Some (File b) → a ≡ b
same_file a b e = ap (file_in a) e
  where
    file_in : FileFid → Option Names → FileFid
    file_in d (Some (File f)) = f
    file_in d names = d

pub walked_so : (done : List Deed) (c new : Connection) (tag fid newfid : ℕ) (wname : List (List ℕ)) (f : FileFid) (old out : List ℕ)
    → Keeps done c → named fid c.fids ≡ Some (File f) → Keeps (walking fid newfid f (lead_to f.file wname) done) new
    → out ≡ old ++ reply_under tag (r.Walk (map qid_of (visited f.file wname))) → Served done tag (t.Walk fid newfid wname) [] new old out
unfolding after reply_of
walked_so done c new tag fid newfid wname f old out k n kept o =
    let there : named fid (held_in done) ≡ Some (File f) = rw k.held at n in
    record {
      keeps = subst (λ (names : Option Names). Keeps (walked fid newfid wname names done) new) (sym there) kept;
      said = subst (λ (names : Option Names). out ≡ old ++ reply_under tag (walk_reply wname names)) (sym there) o;
    }

pub opened_so : (done : List Deed) (c new : Connection) (tag fid mode : ℕ) (f : FileFid) (old out : List ℕ)
    → Keeps done c → named fid c.fids ≡ Some (File f) → Keeps (Became fid (opened f) ∷ done) new
    → out ≡ old ++ reply_under tag (r.Open (qid_of f.file) 0) → Served done tag (t.Open fid mode) [] new old out
unfolding after reply_of
opened_so done c new tag fid mode f old out k n kept o =
    let there : named fid (held_in done) ≡ Some (File f) = rw k.held at n in
    record {
      keeps = subst (λ (names : Option Names). Keeps (opening fid names done) new) (sym there) kept;
      said = subst (λ (names : Option Names). out ≡ old ++ reply_under tag (r.Open (qid_of (file_of names)) 0)) (sym there) o;
    }

-- ---- a conversation that is begun

pub logged_in : (done : List Deed) (tag afid : ℕ) (uname aname : List ℕ) (calls : List PortCall) (conv : ℕ) (c new : Connection) (old out : List ℕ)
    → Keeps done c → begun_in calls ≡ Some conv → new.msize ≡ c.msize → new.fids ≡ c.fids ++ holds afid (begun conv uname aname) ∷ []
    → out ≡ old ++ reply_under tag (r.Auth auth_qid) → Served done tag (t.Auth afid uname aname) calls new old out
unfolding after reply_of
logged_in done tag afid uname aname calls conv c new old out k begun' m f o = record {
  keeps = subst (λ (b : Option ℕ). Keeps (logging_in afid uname aname b done) new) (sym begun') (record { msize = m ∙ k.msize; held = f ∙ ap (λ (all : List Held). all ++ holds afid (begun conv uname aname) ∷ []) k.held });
  said = subst (λ (b : Option ℕ). out ≡ old ++ reply_under tag (login_reply b)) (sym begun') o;
}

pub not_logged_in : (done : List Deed) (tag afid : ℕ) (uname aname : List ℕ) (calls : List PortCall) (c : Connection) (old out : List ℕ)
    → Keeps done c → begun_in calls ≡ None → out ≡ old ++ reply_under tag unavailable → Served done tag (t.Auth afid uname aname) calls c old out
unfolding after reply_of
not_logged_in done tag afid uname aname calls c old out k none o = record {
  keeps = subst (λ (b : Option ℕ). Keeps (logging_in afid uname aname b done) c) (sym none) k;
  said = subst (λ (b : Option ℕ). out ≡ old ++ reply_under tag (login_reply b)) (sym none) o;
}

-- ---- a write

pub write_alike : (all : List Held) (fid offset : ℕ) (content : List ℕ) → refusal all (t.Write fid offset content) ≡ refusal all (t.Write fid 0 content)
unfolding refusal
write_alike all fid offset content = refl

write_short : (b : Bool) → (if not b then Some (codes "rpc too long") else None) ≡ None → b ≡ true
write_short true e = refl
write_short false e = absurd cc

short_so : (names : Option Names) (a : AuthFid) (content : List ℕ) → authenticates names ≡ Some a → fid_first names (write_tests content) ≡ None → nat_le (length (write_text content)) most_request ≡ true
short_so None a content is e = absurd cc
short_so (Some (File f)) a content is e = absurd cc
short_so (Some (Conversation b)) a content is e = write_short (nat_le (length (write_text content)) most_request) e

no_start : (content : List ℕ) → is_start (write_text content) ≡ false
no_start content = refl

fits : (b c d : Bool) → b ≡ true → c ≡ false → (b && (not c || d)) ≡ true
fits b c d e f = rw (e, f) refl

-- a write that isn't refused may be asked
pub write_fits : (all : List Held) (fid : ℕ) (a : AuthFid) (content : List ℕ) → authenticates (named fid all) ≡ Some a → refusal all (t.Write fid 0 content) ≡ None → is_fit (write_text content) ≡ true
unfolding refusal
write_fits all fid a content is e =
    fits (nat_le (length (write_text content)) most_request) (is_start (write_text content)) (bytes_eq (write_text content) start_text) (short_so (named fid all) a content is e) (no_start content)

-- ---- frames

pub answered_ok : {P : Type 0} (stands : List PortCall → P → Type 0) (done : List Deed) (past : List PortCall) (frame : List ℕ) (body : TBody) (c : Connection) (port : P) (old out : List ℕ)
    → granted done frame ≡ Ok body → Carried stands done past (tag_of frame) body c port old out → Answered stands done past frame c port old out
answered_ok stands done past frame body c port old out is h = record {
  calls = h.calls;
  asks = subst (λ (g : Result TBody (List ℕ)). AsksFor done g h.calls) (sym is) h.asks;
  told = h.told;
  keeps = subst (λ (g : Result TBody (List ℕ)). Keeps (after_granted done g h.calls) c) (sym is) h.served.keeps;
  said = subst (λ (g : Result TBody (List ℕ)). out ≡ old ++ reply_under (tag_of frame) (reply_for done g h.calls)) (sym is) h.served.said;
}

pub answered_err : {P : Type 0} (stands : List PortCall → P → Type 0) (done : List Deed) (past : List PortCall) (frame text : List ℕ) (c : Connection) (port : P) (old out : List ℕ)
    → granted done frame ≡ Err text → Keeps done c → stands past port → out ≡ old ++ reply_under (tag_of frame) (r.Error text) → Answered stands done past frame c port old out
answered_err stands done past frame text c port old out is k told o = record {
  calls = [];
  asks = subst (λ (g : Result TBody (List ℕ)). AsksFor done g []) (sym is) refl;
  told = told;
  keeps = subst (λ (g : Result TBody (List ℕ)). Keeps (after_granted done g []) c) (sym is) k;
  said = subst (λ (g : Result TBody (List ℕ)). out ≡ old ++ reply_under (tag_of frame) (reply_for done g [])) (sym is) o;
}

pub stepped : {P : Type 0} (stands : List PortCall → P → Type 0) (before : History) (past : List PortCall) (frame : List ℕ) (door : Door) (port : P) (old out : List ℕ)
    → has_failed door ≡ false → Answered stands (deeds before) past frame door.connection port old out → Stepped stands before past frame door port old out
stepped stands before past frame door port old out works h = record {
  turn = record { frame = frame; calls = h.calls };
  frame_is = refl;
  asks = h.asks;
  stands_for = record { works = works; keeps = h.keeps };
  told = h.told;
  said = h.said;
}
