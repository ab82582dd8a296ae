-- What a read leaves, by what it found.
use Rattle.std.proofs.Common.{◌≡◌, ℕ, ◌+◌, ◌≤◌, List, [], ◌∷◌, ◌++◌, length, drop, take, Option, Some, None, refl, sym, subst, ◌∙◌, arith}
use Rattle.std.specs.Prelude.{if◌then◌else◌}
use Rattle.nine.specs.declared.message.RBody.{RBody}
use Rattle.nine.specs.declared.message.TBody.TheVariants as t
use Rattle.nine.specs.declared.message.RBody.TheVariants as r
use Rattle.agent_history.specs.Requests.{effective, piece}
use Rattle.doors.specs.declared.fid.AuthFid.{AuthFid}
use Rattle.doors.specs.declared.fid.FileFid.{FileFid}
use Rattle.doors.specs.declared.file.DoorFile.{DoorFile}
use Rattle.doors.specs.declared.file.DoorFile.TheVariants.{Root, Who}
use Rattle.doors.specs.declared.fid.Names.{Names}
use Rattle.doors.specs.declared.fid.Names.TheVariants.{Conversation, File}
use Rattle.doors.specs.Calls.{PortCall, Asked, read_text}
use Rattle.doors.specs.Tree.{content_of, is_directory, listed, who_text}
use Rattle.doors.specs.Deeds.{Deed, Became, held_in}
use Rattle.doors.specs.Fids.{keeping, named, read_to, renamed}
use Rattle.doors.specs.Requests.{OfNames, ReadAsks, after, bytes_reply, heard_in, kept_of, not_read, read_reply, reading, reply_of, room, to_read, unavailable}
use Rattle.doors.specs.declared.connection.Connection.{Connection}
use Rattle.doors.specs.declared.asking.Answer.{Answer}
use Rattle.doors.specs.declared.reading.Found.{Found}
use Rattle.doors.specs.Answers.{Finds, IsFound, asked, said_of}
use Rattle.doors.specs.Doors.{Carried, Keeps, Served, reply_under}

-- it gives the first of the bytes, and keeps the others
pub read_gives : (done : List Deed) (c new : Connection) (tag fid offset count : ℕ) (a : AuthFid) (calls : List PortCall) (bytes old out : List ℕ)
    → Keeps done c → named fid c.fids ≡ Some (Conversation a) → to_read a.kept calls ≡ Some bytes
    → new.msize ≡ c.msize → new.fids ≡ renamed fid (keeping (drop (effective count c.msize) bytes) a) c.fids
    → out ≡ old ++ reply_under tag (r.Read (take (effective count c.msize) bytes))
    → Served done tag (t.Read fid offset count) calls new old out
unfolding after reply_of
read_gives done c new tag fid offset count a calls bytes old out k n found m f o =
    let there : named fid (held_in done) ≡ Some (Conversation a) = rw k.held at n in
    let kept : new.fids ≡ renamed fid (keeping (drop (room done count) bytes) a) (held_in done) = rw (k.msize, k.held) at f in
    let said : out ≡ old ++ reply_under tag (r.Read (take (room done count) bytes)) = rw k.msize at o in
    record {
      keeps = subst (λ (names : Option Names). Keeps (reading fid offset (room done count) names calls done) new) (sym there)
          (subst (λ (given : Option (List ℕ)). Keeps (kept_of fid a (room done count) given done) new) (sym found) (record { msize = m ∙ k.msize; held = kept }));
      said = subst (λ (names : Option Names). out ≡ old ++ reply_under tag (read_reply offset (room done count) names calls)) (sym there)
          (subst (λ (given : Option (List ℕ)). out ≡ old ++ reply_under tag (bytes_reply (room done count) given (heard_in calls))) (sym found) said);
    }

-- it gives none, and nothing changes
pub read_none : (done : List Deed) (c : Connection) (tag fid offset count : ℕ) (a : AuthFid) (calls : List PortCall) (reply : RBody) (old out : List ℕ)
    → Keeps done c → named fid c.fids ≡ Some (Conversation a) → to_read a.kept calls ≡ None
    → not_read (heard_in calls) ≡ reply → out ≡ old ++ reply_under tag reply
    → Served done tag (t.Read fid offset count) calls c old out
unfolding after reply_of
read_none done c tag fid offset count a calls reply old out k n found why o =
    let there : named fid (held_in done) ≡ Some (Conversation a) = rw k.held at n in
    record {
      keeps = subst (λ (names : Option Names). Keeps (reading fid offset (room done count) names calls done) c) (sym there)
          (subst (λ (given : Option (List ℕ)). Keeps (kept_of fid a (room done count) given done) c) (sym found) k);
      said = subst (λ (names : Option Names). out ≡ old ++ reply_under tag (read_reply offset (room done count) names calls)) (sym there)
          (subst (λ (given : Option (List ℕ)). out ≡ old ++ reply_under tag (bytes_reply (room done count) given (heard_in calls))) (sym found)
          (subst (λ (x : RBody). out ≡ old ++ reply_under tag x) (sym why) o));
    }

-- ---- what is found

pub none_kept : (kept : List ℕ) → length kept ≤ 0 → kept ≡ []
none_kept [] le = refl
none_kept (byte ∷ bytes) le = absurd (omega (arith, le))

-- the conversation was asked
pub found_asked : {P : Type 0} (stands : List PortCall → P → Type 0) (past : List PortCall) (port : P) (conv : ℕ) (kept : List ℕ) (came : Option Answer) (answer : List ℕ) (found : Found) → kept ≡ []
    → stands (Asked conv read_text (said_of came) answer ∷ past) port → IsFound found [] (asked conv read_text came answer) → Finds stands past port conv kept found
found_asked stands past port conv kept came answer found none told is =
    subst (λ (k : List ℕ). Finds stands past port conv k found) (sym none) (record { calls = asked conv read_text came answer; asks = (refl, refl); told = told; is = is })

-- ---- a read of a file

pub read_of : (done : List Deed) (c new : Connection) (tag fid offset count : ℕ) (f : FileFid) (old out : List ℕ)
    → Keeps done c → named fid c.fids ≡ Some (File f)
    → Keeps (reading fid offset (room done count) (Some (File f)) [] done) new
    → out ≡ old ++ reply_under tag (r.Read (content_of f.uname offset (room done count) f.file))
    → Served done tag (t.Read fid offset count) [] new old out
unfolding after reply_of
read_of done c new tag fid offset count f old out k n kept said =
    let there : named fid (held_in done) ≡ Some (File f) = rw k.held at n in
    record {
      keeps = subst (λ (names : Option Names). Keeps (reading fid offset (room done count) names [] done) new) (sym there) kept;
      said = subst (λ (names : Option Names). out ≡ old ++ reply_under tag (read_reply offset (room done count) names [])) (sym there) said;
    }

-- of the file that tells for whom it was attached
pub read_who : (done : List Deed) (c : Connection) (tag fid offset count : ℕ) (f : FileFid) (uname old out : List ℕ)
    → Keeps done c → named fid c.fids ≡ Some (File f) → f.file ≡ Who → f.uname ≡ uname
    → out ≡ old ++ reply_under tag (r.Read (piece offset (effective count c.msize) (who_text uname)))
    → Served done tag (t.Read fid offset count) [] c old out
read_who done c tag fid offset count f uname old out k n file user o =
    read_of done c c tag fid offset count f old out k n
    (subst (λ (x : DoorFile). Keeps (if is_directory x then Became fid (read_to (offset + length (content_of f.uname offset (room done count) x)) f) ∷ done else done) c) (sym file) k)
    (subst (λ (x : DoorFile). out ≡ old ++ reply_under tag (r.Read (content_of f.uname offset (room done count) x))) (sym file)
    (subst (λ (x : List ℕ). out ≡ old ++ reply_under tag (r.Read (piece offset (room done count) (who_text x)))) (sym user) (rw k.msize at o)))

-- of the root
pub read_root : (done : List Deed) (c new : Connection) (tag fid offset count : ℕ) (f : FileFid) (old out : List ℕ)
    → Keeps done c → named fid c.fids ≡ Some (File f) → f.file ≡ Root
    → Keeps (Became fid (read_to (offset + length (listed offset (effective count c.msize))) f) ∷ done) new
    → out ≡ old ++ reply_under tag (r.Read (listed offset (effective count c.msize)))
    → Served done tag (t.Read fid offset count) [] new old out
read_root done c new tag fid offset count f old out k n file kept o =
    read_of done c new tag fid offset count f old out k n
    (subst (λ (x : DoorFile). Keeps (if is_directory x then Became fid (read_to (offset + length (content_of f.uname offset (room done count) x)) f) ∷ done else done) new) (sym file) (rw k.msize at kept))
    (subst (λ (x : DoorFile). out ≡ old ++ reply_under tag (r.Read (content_of f.uname offset (room done count) x))) (sym file) (rw k.msize at o))

-- ---- reads, with what they asked

pub carried_file : {P : Type 0} (stands : List PortCall → P → Type 0) (done : List Deed) (past : List PortCall) (c new : Connection) (port : P) (tag fid offset count : ℕ) (f : FileFid) (old out : List ℕ)
    → Keeps done c → named fid c.fids ≡ Some (File f) → stands past port → Served done tag (t.Read fid offset count) [] new old out
    → Carried stands done past tag (t.Read fid offset count) new port old out
carried_file stands done past c new port tag fid offset count f old out k n told served =
    let there : named fid (held_in done) ≡ Some (File f) = rw k.held at n in
    record { calls = []; asks = subst (λ (names : Option Names). OfNames ReadAsks names []) (sym there) refl; told = told; served = served }

pub carried_read : {P : Type 0} (stands : List PortCall → P → Type 0) (done : List Deed) (past : List PortCall) (c new : Connection) (port : P) (tag fid offset count : ℕ) (a : AuthFid) (found : Found) (old out : List ℕ)
    → Keeps done c → named fid c.fids ≡ Some (Conversation a) → (finds : Finds stands past port a.conv a.kept found) → Served done tag (t.Read fid offset count) finds.calls new old out
    → Carried stands done past tag (t.Read fid offset count) new port old out
carried_read stands done past c new port tag fid offset count a found old out k n finds served =
    let there : named fid (held_in done) ≡ Some (Conversation a) = rw k.held at n in
    record { calls = finds.calls; asks = subst (λ (names : Option Names). OfNames ReadAsks names finds.calls) (sym there) finds.asks; told = finds.told; served = served }

-- of a fid that names nothing, which is refused before
pub carried_none : {P : Type 0} (stands : List PortCall → P → Type 0) (done : List Deed) (past : List PortCall) (c : Connection) (port : P) (tag fid offset count : ℕ) (old out : List ℕ)
    → Keeps done c → named fid c.fids ≡ None → stands past port → out ≡ old ++ reply_under tag unavailable
    → Carried stands done past tag (t.Read fid offset count) c port old out
unfolding after reply_of
carried_none stands done past c port tag fid offset count old out k n told o =
    let there : named fid (held_in done) ≡ None = rw k.held at n in
    record {
      calls = [];
      asks = subst (λ (names : Option Names). OfNames ReadAsks names []) (sym there) refl;
      told = told;
      served = record {
        keeps = subst (λ (names : Option Names). Keeps (reading fid offset (room done count) names [] done) c) (sym there) k;
        said = subst (λ (names : Option Names). out ≡ old ++ reply_under tag (read_reply offset (room done count) names [])) (sym there) o;
      };
    }
