-- What the reply to a version tells is agreed from then on, and every reply has a spelling.
use Rattle.std.proofs.Common.{◌≡◌, ℕ, min, ◌<◌, ◌^◌, List, [], ◌∷◌, length, take, drop, map, Bool, true, false, cond, ltb, Option, Some, None, refl, ap, subst, inl, inr, arith, codes}
use Rattle.std.specs.Prelude.{Result, Ok, Err, All}
use Rattle.std.specs.List.{AllByRecursion}
use Rattle.std.proofs.lemmas.Bool.{cases_Bool, cases_lt, eq-eqb}
use Rattle.std.proofs.lemmas.List.{length-map, get_or_past}
use Rattle.std.proofs.lemmas.List.Elements.{All-get_or}
use Rattle.wire_base.proofs.ReaderLaws.{AreBytes, AreBytes-drop, AreBytes-take, wide16}
use Rattle.nine.specs.declared.message.TBody.{TBody}
use Rattle.nine.specs.declared.message.TBody.TheVariants as t
use Rattle.nine.specs.declared.message.RMsg.{RMsg}
use Rattle.nine.specs.declared.message.RBody.{RBody}
use Rattle.nine.specs.declared.message.RBody.TheVariants as r
use Rattle.nine.specs.Messages.{IsQid, t_fits, r_fits, r_frame, IsReply}
use Rattle.nine.specs.Decoding.{r_reading}
use Rattle.nine.proofs.ReplyLaws.{reply_again}
use Rattle.file_tree.specs.declared.tree.Node.{Node}
use Rattle.file_tree.specs.declared.tree.Node.TheVariants.{Root, Factotum, Rpc, Ctl, Confirm, Needkey, Proto, Log}
use Rattle.file_tree.specs.Tree.{qid_of, visited}
use Rattle.file_tree.specs.Calls.{node_of}
use Rattle.file_tree.proofs.RecordLaws.{size_small}
use Rattle.file_tree.proofs.WalkLaws.{at_most}
use Rattle.talks.specs.declared.answer.RpcAnswer.{RpcAnswer}
use Rattle.agent_history.specs.Deeds.{Deed, fid_of, msize_of, OfFids, OfKeys, OfReplies, OfConnection, OfTalk, OfPrompts, OfLog, Raised, HandedOut, DropTaken, Swept, Halted, Versioned, Answered, Awaited, Settled, Flushed, Taken}
use Rattle.agent_history.specs.Conversations.{fits, told}
use Rattle.agent_history.specs.Requests.{Call, after, after_frame, after_granted, body_for, body_to, call_of, effective, granted, is_known, most_msize, reply_of, tag_of, written, agreed}
use Rattle.agent_laws.specs.Laws.{reply_to}
use Rattle.agent_laws.proofs.ToldLaws.{told_string, Tells, Gives, frame_gives}
use Rattle.agent_laws.proofs.FitLaws.{Each, content_fits, each_reply, effective_asked, read_each, request_fits, told_each, version_text, version_told, write_each}
use Rattle.agent_laws.proofs.GrowLaws.{KeepsAny, given_up_after}
use Rattle.agent_laws.proofs.KindLaws.{is_handed}

-- ---- what the reply to a version tells

abbrev TellsVersion : ℕ → RBody → Type 0
TellsVersion msize body = body ≡ r.Version msize (codes "9P2000")

abbrev SaysVersion : ℕ → Option RBody → Type 0
SaysVersion msize o = o ≡ Some (r.Version msize (codes "9P2000"))

known_is_told : (known : Bool) (size msize : ℕ) → TellsVersion msize (r.Version size (version_text known)) → cond known (Some size) None ≡ Some msize
known_is_told true size msize e = let same : size ≡ msize = cc in ap Some same
known_is_told false size msize e = let same : codes "unknown" ≡ codes "9P2000" = cc in absurd (omega (arith, ap length same))

not_version : (content : List ℕ) (o : Option (List ℕ)) (msize : ℕ) → TellsVersion msize (written content o) → ⊥
not_version content None msize e = cc
not_version content (Some text) msize e = cc

abbrev NoVersion : ℕ → RBody → Type 0
NoVersion msize body = TellsVersion msize body → ⊥

says_it : (body : RBody) (msize : ℕ) → SaysVersion msize (Some body) → TellsVersion msize body
says_it body msize e = let same : body ≡ r.Version msize (codes "9P2000") = cc in same

not_each : (msize : ℕ) (o : Option RBody) → Each (NoVersion msize) o → SaysVersion msize o → ⊥
not_each msize None h e = cc
not_each msize (Some body) h e = h (says_it body msize e)

answer_no_version : (count msize : ℕ) (answer : RpcAnswer) → NoVersion msize (told count answer)
answer_no_version count msize answer = told_each (NoVersion msize) count answer (λ small e. cc) (λ e. cc)

same_size : (conn : ℕ) (o : Option ℕ) → KeepsAny is_handed (λ done. msize_of done conn ≡ o)
same_size conn o done (OfTalk conv call) is p = p
same_size conn o done (OfPrompts about doing) is p = p
same_size conn o done (OfLog doing) is p = p
same_size conn o done (Raised conv) is p = absurd cc
same_size conn o done (OfReplies at (Settled tag body)) is p = p
same_size conn o done (OfFids at deed) is p = absurd cc
same_size conn o done (OfKeys at deed) is p = absurd cc
same_size conn o done (OfConnection at deed) is p = absurd cc
same_size conn o done (OfReplies at (Answered tag body)) is p = absurd cc
same_size conn o done (OfReplies at (Awaited tag f count)) is p = absurd cc
same_size conn o done (OfReplies at (Flushed tag)) is p = absurd cc
same_size conn o done (OfReplies at Taken) is p = absurd cc
same_size conn o done HandedOut is p = absurd cc
same_size conn o done DropTaken is p = absurd cc
same_size conn o done Swept is p = absurd cc
same_size conn o done Halted is p = absurd cc

body_told : (done : List Deed) (call : Call) (body : TBody) (msize : ℕ) → SaysVersion msize (reply_of done call body) → msize_of (after done call body) call.conn ≡ Some msize
unfolding reply_of after
body_told done call (t.Version offered version) msize e =
    given_up_after (λ d. msize_of d call.conn ≡ Some msize) (same_size call.conn (Some msize)) (OfFids call.conn (Versioned (agreed offered version))) done
    (λ d. rw (eq-eqb call.conn call.conn refl) (known_is_told (is_known version) (min offered most_msize) msize (says_it _ msize e)))
body_told done call (t.Auth afid uname aname) msize e = absurd cc
body_told done call (t.Attach fid afid uname aname) msize e = absurd cc
body_told done call (t.Flush oldtag) msize e = absurd cc
body_told done call (t.Walk fid newfid wname) msize e = absurd cc
body_told done call (t.Open fid mode) msize e = absurd cc
body_told done call (t.Create fid name perm mode) msize e = absurd cc
body_told done call (t.Read fid offset count) msize e =
    let most = effective count (msize_of done call.conn) in
    let node = node_of (fid_of done call.conn fid) in
    absurd (not_each msize _ (read_each (NoVersion msize) done call fid offset most node (λ answer. answer_no_version most msize answer) (λ line small f. cc) (λ f. cc) (λ f. cc)) e)
body_told done call (t.Write fid offset content) msize e =
    absurd (not_each msize _ (write_each (NoVersion msize) done content (node_of (fid_of done call.conn fid)) (λ f. cc) (λ o tells. not_version content o msize)) e)
body_told done call (t.Clunk fid) msize e = absurd cc
body_told done call (t.Remove fid) msize e = absurd cc
body_told done call (t.Stat fid) msize e = absurd cc
body_told done call (t.Wstat fid stat) msize e = absurd cc

granted_told : (done : List Deed) (call : Call) (g : Result TBody (List ℕ)) (msize : ℕ) → SaysVersion msize (body_for done call g) → msize_of (after_granted done call g) call.conn ≡ Some msize
granted_told done call (Err text) msize e = absurd cc
granted_told done call (Ok body) msize e = body_told done call body msize e

pub told_is_agreed : (done : List Deed) (call : Call) (msize : ℕ) (bytes : List ℕ) → body_to done call bytes ≡ Some (r.Version msize (codes "9P2000")) → msize_of (after_frame done call bytes) call.conn ≡ Some msize
unfolding body_to after_frame
told_is_agreed done call msize bytes e = granted_told done call (granted done call bytes) msize e

-- ---- a reply has a spelling

qid_fits : (node : Node) → IsQid (qid_of node)
qid_fits Root = ((omega arith, omega arith), omega arith)
qid_fits Factotum = ((omega arith, omega arith), omega arith)
qid_fits Rpc = ((omega arith, omega arith), omega arith)
qid_fits Ctl = ((omega arith, omega arith), omega arith)
qid_fits Confirm = ((omega arith, omega arith), omega arith)
qid_fits Needkey = ((omega arith, omega arith), omega arith)
qid_fits Proto = ((omega arith, omega arith), omega arith)
qid_fits Log = ((omega arith, omega arith), omega arith)

qids_fit : (nodes : List Node) → AllByRecursion IsQid (map qid_of nodes)
qids_fit [] = tt
qids_fit (node ∷ nodes) = (qid_fits node, qids_fit nodes)

written_valid : (content : List ℕ) (o : Option (List ℕ)) → Tells o → length content < 2 ^ 32 → r_fits (written content o)
written_valid content None h small = small
written_valid content (Some text) h small = told_string text (h text refl)

-- an answer of rpc that is read has a spelling
answer_valid : (count : ℕ) (answer : RpcAnswer) → count < 2 ^ 32 → r_fits (told count answer)
answer_valid count answer small = told_each r_fits count answer (λ fitting. omega (arith, fitting, small)) (told_string _ refl)

body_valid : (done : List Deed) (call : Call) (body : TBody) → t_fits body → Each r_fits (reply_of done call body)
unfolding reply_of
body_valid done call (t.Version msize version) fits = (omega arith, told_string (version_text (is_known version)) (version_told (is_known version)))
body_valid done call (t.Auth afid uname aname) fits = told_string _ refl
body_valid done call (t.Attach fid afid uname aname) fits = qid_fits Root
body_valid done call (t.Flush oldtag) fits = tt
body_valid done call (t.Walk fid newfid wname) fits =
    let nodes = visited (node_of (fid_of done call.conn fid)) wname in
    record { few = omega (arith, fits.1.few, length-map nodes qid_of, at_most (node_of (fid_of done call.conn fid)) wname); each = qids_fit nodes }
body_valid done call (t.Open fid mode) fits = (qid_fits (node_of (fid_of done call.conn fid)), omega arith)
body_valid done call (t.Create fid name perm mode) fits = told_string _ refl
body_valid done call (t.Read fid offset count) fits =
    let most = effective count (msize_of done call.conn) in
    let node = node_of (fid_of done call.conn fid) in
    read_each r_fits done call fid offset most node (λ answer. answer_valid most answer (omega (arith, fits.1, effective_asked count (msize_of done call.conn))))
    (λ line small. omega (arith, small, fits.1, effective_asked count (msize_of done call.conn))) (told_string _ refl)
    (omega (arith, fits.1, content_fits done call.conn fid offset most node, effective_asked count (msize_of done call.conn)))
body_valid done call (t.Write fid offset content) fits = write_each r_fits done content (node_of (fid_of done call.conn fid)) fits.1 (λ o tells. written_valid content o tells fits.1)
body_valid done call (t.Clunk fid) fits = tt
body_valid done call (t.Remove fid) fits = told_string _ refl
body_valid done call (t.Stat fid) fits = omega (arith, size_small (node_of (fid_of done call.conn fid)))
body_valid done call (t.Wstat fid stat) fits = told_string _ refl

granted_valid : (done : List Deed) (call : Call) (g : Result TBody (List ℕ)) → Gives t_fits g → Each r_fits (body_for done call g)
granted_valid done call (Err text) gives = told_string text (gives.told text refl)
granted_valid done call (Ok body) gives = body_valid done call body (gives.holds body refl)

tag_small : (bytes : List ℕ) → AreBytes bytes → tag_of bytes < 2 ^ 16
tag_small bytes are = elim (cases_Bool (ltb (length (drop 5 bytes)) 2)) [
  | inl e ↦ rw e (omega arith)
  | inr e ↦ rw e (wide16.below (take 2 (drop 5 bytes)) (AreBytes-take 2 (drop 5 bytes) (AreBytes-drop 5 bytes are)))
]

each_byte : (bytes : List ℕ) → All (λ (b : ℕ). b < 256) bytes → AreBytes bytes
each_byte bytes small i = elim (cases_lt i (length bytes)) [
  | inl lt ↦ All-get_or (λ (b : ℕ). b < 256) bytes i 0 lt small
  | inr le ↦ rw (get_or_past bytes i 0 le) (omega arith)
]

pub reply_valid : (done : List Deed) (conn : ℕ) (bytes word : List ℕ) (reply : RMsg) → All (λ (b : ℕ). b < 256) bytes → reply_to done conn bytes word ≡ Some reply → IsReply (r_frame reply) reply
unfolding reply_to body_to
reply_valid done conn bytes word reply small e =
    let are = each_byte bytes small in
    let call = call_of conn bytes word in
    let valid = granted_valid done call (granted done call bytes) (frame_gives t_fits done call bytes (request_fits bytes are)) in
    let parts = each_reply r_fits (body_for done call (granted done call bytes)) (tag_of bytes) reply valid e in
    record { spelling = refl; tag = subst (λ (n : ℕ). n < 2 ^ 16) parts.0 (tag_small bytes are); fields = parts.1 }

pub reply_read : (done : List Deed) (conn : ℕ) (bytes word : List ℕ) (reply : RMsg) → All (λ (b : ℕ). b < 256) bytes → reply_to done conn bytes word ≡ Some reply → r_reading (r_frame reply) ≡ Ok reply
reply_read done conn bytes word reply small e = reply_again (r_frame reply) reply (reply_valid done conn bytes word reply small e)
