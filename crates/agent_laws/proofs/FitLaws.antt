-- Every reply fits what was agreed on its connection.
use Rattle.std.proofs.Common.{◌≡◌, ℕ, zero, suc, ◌+◌, ◌-◌, ◌*◌, ◌≤◌, List, [], ◌∷◌, length, drop, map, reverse, ◌++◌, Bool, true, false, cond, eqb, leb, ltb, ◌&&◌, not, Option, Some, None, refl, sym, ap, subst, ◌∙◌, inl, inr, arith, codes, length-append, ◌||◌}
use Rattle.std.specs.Prelude.{Result, Ok, Err, All, find, option_map, is_some}
use Rattle.std.specs.List.{filter, filter_map, flat_map, cons_option, AllByRecursion}
use Rattle.std.specs.Int.{Width, w8, w16, w32, w64}
use Rattle.std.proofs.lemmas.Bool.{cases_Bool, eq-eqb, eqb-true, leb-true, ltb-false}
use Rattle.std.proofs.lemmas.List.{length-take, length-map, reverse-append}
use Rattle.std.proofs.lemmas.List.Elements.{All-nil, All-cons, All-take, All-map}
use Rattle.wire_base.specs.Readers.{Reader, ◌>>=◌, number, block, string, times, listed, both, no_more}
use Rattle.wire_base.proofs.ReaderLaws.{AreBytes, bind_ok, no_more_taken}
use Rattle.nine.specs.declared.qid.Qid.{Qid}
use Rattle.nine.specs.declared.message.TMsg.{TMsg}
use Rattle.nine.specs.declared.message.TBody.{TBody}
use Rattle.nine.specs.declared.message.TBody.TheVariants as t
use Rattle.nine.specs.declared.message.RMsg.{RMsg}
use Rattle.nine.specs.declared.message.RBody.{RBody}
use Rattle.nine.specs.declared.message.RBody.TheVariants as r
use Rattle.nine.specs.Messages.{frame, qid_text, t_fits, r_kind, r_fields, r_frame}
use Rattle.nine.specs.Decoding.{version_at, auth_at, attach_at, flush_at, walk_at, open_at, create_at, read_at, write_at, clunk_at, remove_at, stat_at, wstat_at, t_body_at, t_reading, request_of}
use Rattle.nine.proofs.RequestLaws.{t_body_reads}
use Rattle.file_tree.specs.declared.tree.Node.{Node}
use Rattle.file_tree.specs.declared.tree.Node.TheVariants.{Root, Factotum, Rpc, Ctl, Confirm, Needkey, Proto, Log}
use Rattle.file_tree.specs.Tree.{files_in, qid_of, visited}
use Rattle.file_tree.specs.Calls.{node_of}
use Rattle.file_tree.specs.Stats.{record_of}
use Rattle.file_tree.specs.Directories.{size_of, behind, fitting, records, dir_bytes}
use Rattle.file_tree.proofs.RecordLaws.{size_small}
use Rattle.file_tree.proofs.WalkLaws.{at_most}
use Rattle.talks.specs.RpcAnswers.{answer_text}
use Rattle.talks.specs.declared.answer.RpcAnswer.{RpcAnswer}
use Rattle.talks.specs.Standings.{Phase, Resting, Waiting as IsStored, Seeking, OnConfirm, OnNeedkey, OnServer, Kept}
use Rattle.agent_history.specs.declared.event.Event.{Event}
use Rattle.agent_history.specs.declared.event.Event.TheVariants.{Request, Hang, Answer, NoAnswer, NoRoom, Take, TakeAsk, Stop}
use Rattle.agent_history.specs.Deeds.{Deed, OfFids, OfKeys, OfReplies, OfConnection, OfTalk, Raised, HandedOut, OfPrompts, OfLog, DropTaken, Swept, Halted, Versioned, Attached, Walked, Opened, Listed, Browsed, Clunked, Answered, Awaited, Settled, Flushed, Taken, Entered, Hung, fid_of, keys_of, msize_of, was_hung, was_opened}
use Rattle.key_lists.specs.CtlLines.{lines_of, lines_fault}
use Rattle.agent_history.specs.Replies.{Wait, fid_given_up, first_of, is_unsettled, replies, reply_in, settle_fid, settle_tag, settled_by, taken, untaken, waits, swept, too_small}
use Rattle.agent_history.specs.Conversations.{conv_of, fits, standing_of, told, Due, NoneDue, DropDue, QuestionDue, due, all_withdrawn, ended_by, given_up_by}
use Rattle.agent_history.specs.Requests.{Call, after_frame, answer_read, answered, body_for, body_to, call_of, carried, content_of, ctl_text, effective, granted, is_known, is_rpc, least_msize, most_msize, piece, proto_text, read_reply, replied, reply_of, tag_of, talk_read, write_reply, written, line_read_reply}
use Rattle.agent_history.specs.Histories.{History, deeds, does, entered, handing, taking}
use Rattle.agent_laws.specs.Laws.{gives_content, given, longest_reply, most_read, put_out, reply_to}
use Rattle.agent_laws.proofs.KindLaws.{IsToldSomehow, SizeFits, is_asked, is_done, is_told_so, FitsIf, KeepsIf, asked_by_met, is_handed, met_by_handed}
use Rattle.agent_laws.proofs.MetLaws.{found_fits, given_up_grows, withdrawn_speakers}
use Rattle.agent_laws.proofs.GrowLaws.{answer_does, either_way, frame_grows, history_grows, last_or_not, no_answer_does, no_room_does, swept_grows, hang_speakers}
use Rattle.agent_laws.proofs.ReplyLaws.{given_in_order, frames_put_out}
use Rattle.agent_laws.proofs.ToldLaws.{is_told, told_short, Tells, Gives, lines_tell, frame_gives}
use Rattle.agent_history.specs.SideFiles.{is_line_file, kind_at, lines_in}
use Rattle.side_files.specs.Lines.{Found, Nothing, TooLong, First, found}

-- ---- what is agreed

abbrev AllAgreed : List Deed → Type 0
AllAgreed done = (conn : ℕ) → SizeFits (msize_of done conn)

either_agreed : (b : Bool) (x y : Option ℕ) → SizeFits x → SizeFits y → SizeFits (cond b x y)
either_agreed true x y p q = p
either_agreed false x y p q = q

deed_agreed : (Known : Type 0) (at : ℕ) → KeepsIf Known (is_done at) AllAgreed
deed_agreed Known at done (OfFids c (Versioned msize)) own fits p = λ conn. either_agreed (eqb c conn) msize (msize_of done conn) fits.0 (p conn)
deed_agreed Known at done (OfFids c (Attached fid)) own fits p = p
deed_agreed Known at done (OfFids c (Walked fid node)) own fits p = p
deed_agreed Known at done (OfFids c (Opened fid mode)) own fits p = p
deed_agreed Known at done (OfFids c (Listed fid)) own fits p = p
deed_agreed Known at done (OfFids c (Browsed fid next)) own fits p = p
deed_agreed Known at done (OfFids c (Clunked fid)) own fits p = p
deed_agreed Known at done (OfKeys c deed) own fits p = p
deed_agreed Known at done (OfReplies c deed) own fits p = p
deed_agreed Known at done (OfConnection c Entered) own fits p = p
deed_agreed Known at done (OfConnection c Hung) own fits p = λ conn. either_agreed (eqb c conn) None (msize_of done conn) tt (p conn)
deed_agreed Known at done (OfTalk conv call) own fits p = p
deed_agreed Known at done (Raised conv) own fits p = p
deed_agreed Known at done HandedOut own fits p = p
deed_agreed Known at done DropTaken own fits p = p
deed_agreed Known at done (OfPrompts about doing) own fits p = p
deed_agreed Known at done (OfLog doing) own fits p = p
deed_agreed Known at done Swept own fits p = p
deed_agreed Known at done Halted own fits p = λ conn. tt

pub all_agreed : (H : History) → AllAgreed (deeds H)
all_agreed H = history_grows AllAgreed (deed_agreed (Unit {0})) (λ conn. tt) H

pub agreed_between : (H : History) (conn msize : ℕ) → msize_of (deeds H) conn ≡ Some msize → (least_msize ≤ msize) × (msize ≤ most_msize)
agreed_between H conn msize e = subst SizeFits e (all_agreed H conn)

room_least : (o : Option ℕ) → SizeFits o → 256 ≤ longest_reply o
room_least None h = omega arith
room_least (Some msize) h = h.0

room_most : (o : Option ℕ) → SizeFits o → longest_reply o ≤ 8216
room_most None h = omega arith
room_most (Some msize) h = h.1

-- ---- a walk that is read has few names

abbrev IsFew : TBody → Type 0
IsFew (t.Walk fid newfid wname) = length wname ≤ 16
IsFew body = Unit {0}

abbrev FewRead : Result (TBody × ℕ) ℕ → Type 0
FewRead (Ok x) = IsFew x.0
FewRead (Err at) = Unit {0}

abbrev SoMany : {A : Type 0} → ℕ → Result (List A × ℕ) ℕ → Type 0
SoMany n (Ok x) = length x.0 ≡ n
SoMany n (Err at) = Unit {0}

abbrev AtMost : {A : Type 0} → ℕ → Result (List A × ℕ) ℕ → Type 0
AtMost n (Ok x) = length x.0 ≤ n
AtMost n (Err at) = Unit {0}

one_more : {A : Type 0} (first : A) (n : ℕ) (r : Result (List A × ℕ) ℕ) → SoMany n r → SoMany (suc n) (r >>= λ others. Ok (first ∷ others.0, others.1))
one_more first n (Ok others) h = ap suc h
one_more first n (Err at) h = tt

times_then : {A : Type 0} (read : Reader A) (n : ℕ) (bytes : List ℕ) → ((at : ℕ) → SoMany n (times read n bytes at)) → (r : Result (A × ℕ) ℕ) → SoMany (suc n) (r >>= λ first. times read n bytes first.1 >>= λ others. Ok (first.0 ∷ others.0, others.1))
times_then read n bytes more (Ok first) = one_more first.0 n (times read n bytes first.1) (more first.1)
times_then read n bytes more (Err at) = tt

times_many : {A : Type 0} (read : Reader A) (n : ℕ) (bytes : List ℕ) (at : ℕ) → SoMany n (times read n bytes at)
times_many read zero bytes at = refl
times_many read (suc n) bytes at = times_then read n bytes (λ next. times_many read n bytes next) (read bytes at)

few_of_many : {A : Type 0} (most n at : ℕ) (b : Bool) (r : Result (List A × ℕ) ℕ) → ltb most n ≡ b → SoMany n r → AtMost most (cond b (Err at) r)
few_of_many most n at true r e h = tt
few_of_many most n at false (Ok x) e h = omega (arith, h, ltb-false most n e)
few_of_many most n at false (Err fault) e h = tt

listed_few : {A : Type 0} (w : Width) (most : ℕ) (read : Reader A) (bytes : List ℕ) (at : ℕ) → AtMost most (listed w most read bytes at)
unfolding listed
listed_few {A} w most read bytes at = step (number w bytes at)
  where
    step : (r : Result (ℕ × ℕ) ℕ) → AtMost {A = A} most (r >>= λ n. cond (ltb most n.0) (Err at) (times read n.0 bytes n.1))
    step (Ok n) = few_of_many most n.0 at (ltb most n.0) (times read n.0 bytes n.1) refl (times_many read n.0 bytes n.1)
    step (Err fault) = tt

few_from : {A : Type 0} (f : A → TBody) (r : Result (A × ℕ) ℕ) → ((x : A) → IsFew (f x)) → FewRead (r >>= λ x. Ok (f x.0, x.1))
few_from f (Ok x) h = h x.0
few_from f (Err at) h = tt

-- a walk, once its fids are read, and once its names are too
abbrev FidsAndNames : Type 0
FidsAndNames = (ℕ × ℕ) × List (List ℕ)

abbrev with_names : ℕ × ℕ → List (List ℕ) × ℕ → Result (FidsAndNames × ℕ) ℕ
with_names fids names = Ok ((fids, names.0), names.1)

abbrev as_walk : FidsAndNames × ℕ → Result (TBody × ℕ) ℕ
as_walk p = Ok (t.Walk p.0.0.0 p.0.0.1 p.0.1, p.1)

names_few : (fids : ℕ × ℕ) (r : Result (List (List ℕ) × ℕ) ℕ) → AtMost 16 r → FewRead (r >>= with_names fids >>= as_walk)
names_few fids (Ok names) h = h
names_few fids (Err at) h = tt

fids_few : (bytes : List ℕ) (r : Result ((ℕ × ℕ) × ℕ) ℕ) → FewRead ((r >>= λ fids. listed w16 16 string bytes fids.1 >>= with_names fids.0) >>= as_walk)
fids_few bytes (Ok fids) = names_few fids.0 (listed w16 16 string bytes fids.1) (listed_few w16 16 string bytes fids.1)
fids_few bytes (Err at) = tt

walk_few : (bytes : List ℕ) (at : ℕ) → FewRead (walk_at bytes at)
unfolding walk_at
walk_few bytes at = fids_few bytes (both (number w32) (number w32) bytes at)

either_few : (b : Bool) (one other : Reader TBody) (bytes : List ℕ) (at : ℕ) → FewRead (one bytes at) → FewRead (other bytes at) → FewRead (cond b one other bytes at)
either_few true one other bytes at p q = p
either_few false one other bytes at p q = q

body_few : (kind : ℕ) (bytes : List ℕ) (at : ℕ) → FewRead (t_body_at kind bytes at)
unfolding t_body_at version_at auth_at attach_at flush_at open_at create_at read_at write_at clunk_at remove_at stat_at wstat_at
body_few kind bytes at =
    either_few (eqb kind 100) _ _ bytes at (few_from (λ p. t.Version p.0 p.1) (both (number w32) string bytes at) (λ p. tt))
    (either_few (eqb kind 102) _ _ bytes at (few_from (λ p. t.Auth p.0.0 p.0.1 p.1) (both (both (number w32) string) string bytes at) (λ p. tt))
    (either_few (eqb kind 104) _ _ bytes at (few_from (λ p. t.Attach p.0.0.0 p.0.0.1 p.0.1 p.1) (both (both (both (number w32) (number w32)) string) string bytes at) (λ p. tt))
    (either_few (eqb kind 108) _ _ bytes at (few_from (λ p. t.Flush p) (number w16 bytes at) (λ p. tt))
    (either_few (eqb kind 110) _ _ bytes at (walk_few bytes at)
    (either_few (eqb kind 112) _ _ bytes at (few_from (λ p. t.Open p.0 p.1) (both (number w32) (number w8) bytes at) (λ p. tt))
    (either_few (eqb kind 114) _ _ bytes at (few_from (λ p. t.Create p.0.0.0 p.0.0.1 p.0.1 p.1) (both (both (both (number w32) string) (number w32)) (number w8) bytes at) (λ p. tt))
    (either_few (eqb kind 116) _ _ bytes at (few_from (λ p. t.Read p.0.0 p.0.1 p.1) (both (both (number w32) (number w64)) (number w32) bytes at) (λ p. tt))
    (either_few (eqb kind 118) _ _ bytes at (few_from (λ p. t.Write p.0.0 p.0.1 p.1) (both (both (number w32) (number w64)) (block w32) bytes at) (λ p. tt))
    (either_few (eqb kind 120) _ _ bytes at (few_from (λ p. t.Clunk p) (number w32 bytes at) (λ p. tt))
    (either_few (eqb kind 122) _ _ bytes at (few_from (λ p. t.Remove p) (number w32 bytes at) (λ p. tt))
    (either_few (eqb kind 124) _ _ bytes at (few_from (λ p. t.Stat p) (number w32 bytes at) (λ p. tt))
    (either_few (eqb kind 126) _ _ bytes at (few_from (λ p. t.Wstat p.0 p.1) (both (number w32) (block w16) bytes at) (λ p. tt))
    tt))))))))))))

-- the body of a request that is read, as it is read
abbrev BodyRead : List ℕ → TBody → Type 0
BodyRead bytes body = (kind last : ℕ) × (t_body_at kind bytes 7 ≡ Ok (body, last))

body_same : (tag : ℕ) (body : TBody) (m : TMsg) → record { tag = tag; body = body } ≡ m → body ≡ m.body
body_same tag body m e = ap (λ (n : TMsg). n.body) e

body_is : (r : Result (TBody × ℕ) ℕ) (one other : TBody) (last : ℕ) → r ≡ Ok (one, last) → one ≡ other → r ≡ Ok (other, last)
body_is r one other last e same = e ∙ ap (λ (body : TBody). Ok (body, last)) same

body_read : (bytes : List ℕ) (m : TMsg) → t_reading bytes ≡ Ok m → BodyRead bytes m.body
unfolding t_reading
body_read bytes m e =
    let k = bind_ok (number w8 bytes 4) (λ kind. number w16 bytes 5 >>= λ tag. t_body_at kind.0 bytes 7 >>= λ body. no_more (record { tag = tag.0; body = body.0 }) bytes body.1) m e in
    let g = bind_ok (number w16 bytes 5) (λ tag. t_body_at k.0.0 bytes 7 >>= λ body. no_more (record { tag = tag.0; body = body.0 }) bytes body.1) m k.2 in
    let b = bind_ok (t_body_at k.0.0 bytes 7) (λ body. no_more (record { tag = g.0.0; body = body.0 }) bytes body.1) m g.2 in
    let end = no_more_taken (record { tag = g.0.0; body = b.0.0 }) m bytes b.0.1 b.2 in
    (k.0.0, b.0.1, body_is (t_body_at k.0.0 bytes 7) b.0.0 m.body b.0.1 b.1 (body_same g.0.0 b.0.0 m end.0))

request_read : (bytes : List ℕ) (m : TMsg) → request_of bytes ≡ Some m → BodyRead bytes m.body
unfolding request_of
request_read bytes m e = body_read bytes m (read_where (t_reading bytes) e)
  where
    read_where : (r : Result TMsg ℕ) → (elim r as (λ x. Option TMsg) [ Ok n ↦ Some n | Err at ↦ None ]) ≡ Some m → r ≡ Ok m
    read_where (Ok n) e = let same : n ≡ m = cc in ap Ok same
    read_where (Err at) e = absurd cc

request_few : (bytes : List ℕ) (m : TMsg) → request_of bytes ≡ Some m → IsFew m.body
request_few bytes m e = let b = request_read bytes m e in subst FewRead b.2 (body_few b.0 bytes 7)

pub request_fits : (bytes : List ℕ) → AreBytes bytes → (m : TMsg) → request_of bytes ≡ Some m → t_fits m.body
request_fits bytes are m e = let b = request_read bytes m e in (t_body_reads b.0 bytes 7 b.1 m.body are b.2).2

-- ---- what a read gives

records_fit : (count : ℕ) (nodes : List Node) → length (records (fitting count nodes)) ≤ count
records_fit count [] = omega arith
records_fit count (node ∷ nodes) = elim (cases_Bool (leb (size_of node) count)) [
  | inl e ↦ rw e (omega (arith, leb-true (size_of node) count e, records_fit (count - size_of node) nodes, length-append (record_of node) (records (fitting (count - size_of node) nodes))))
  | inr e ↦ rw e (omega arith)
]

directory_fits : (node : Node) (offset count : ℕ) → length (dir_bytes node offset count) ≤ count
unfolding dir_bytes
directory_fits node offset count = records_fit count (behind offset (files_in node))

piece_fits : (offset count : ℕ) (text : List ℕ) → length (piece offset count text) ≤ count
piece_fits offset count text = omega (arith, length-take count (drop offset text))

pub content_fits : (done : List Deed) (conn fid offset count : ℕ) (node : Node) → length (content_of done conn fid offset count node) ≤ count
content_fits done conn fid offset count Root = directory_fits Root offset count
content_fits done conn fid offset count Factotum = directory_fits Factotum offset count
content_fits done conn fid offset count Ctl = piece_fits offset count (ctl_text done conn fid offset)
content_fits done conn fid offset count Proto = piece_fits offset count proto_text
content_fits done conn fid offset count Rpc = omega arith
content_fits done conn fid offset count Confirm = omega arith
content_fits done conn fid offset count Needkey = omega arith
content_fits done conn fid offset count Log = omega arith

-- a message of the size agreed holds so much
effective_fits : (count : ℕ) (o : Option ℕ) → SizeFits o → 11 + effective count o ≤ longest_reply o
effective_fits count None h = omega arith
effective_fits count (Some msize) h = omega (arith, h.0)

pub effective_asked : (count : ℕ) (o : Option ℕ) → effective count o ≤ count
effective_asked count None = omega arith
effective_asked count (Some msize) = omega arith

-- ---- how long a reply is

qids_len : (qids : List Qid) → length (flat_map qid_text qids) ≡ 13 * length qids
qids_len [] = refl
qids_len (q ∷ qids) = omega (arith, qids_len qids)

abbrev FitsIn : ℕ → RBody → Type 0
FitsIn room body = 7 + length (r_fields body) ≤ room

error_fits : (text : List ℕ) → is_told text ≡ true → FitsIn 256 (r.Error text)
error_fits text told = omega (arith, told_short text told)

written_fits : (content : List ℕ) (o : Option (List ℕ)) → Tells o → FitsIn 256 (written content o)
written_fits content None h = omega arith
written_fits content (Some text) h = error_fits text (h text refl)

-- the version that is replied
abbrev pub version_text : Bool → List ℕ
version_text known = cond known (codes "9P2000") (codes "unknown")

pub version_told : (known : Bool) → is_told (version_text known) ≡ true
version_told true = refl
version_told false = refl

-- the reply, if there is one, is so
abbrev pub Each : (RBody → Type 0) → Option RBody → Type 0
Each P None = Unit {0}
Each P (Some body) = P body

either_each : (P : RBody → Type 0) (b : Bool) (one other : Option RBody) → Each P one → Each P other → Each P (cond b one other)
either_each P true one other p q = p
either_each P false one other p q = q

-- an answer of rpc that is read
pub told_each : (P : RBody → Type 0) (count : ℕ) (answer : RpcAnswer) → (length (answer_text answer) ≤ count → P (r.Read (answer_text answer))) → P (r.Error (codes "read too small")) → P (told count answer)
told_each P count answer one other = by_size (fits count answer) refl
  where
    by_size : (b : Bool) → fits count answer ≡ b → P (cond b (r.Read (answer_text answer)) (r.Error (codes "read too small")))
    by_size true e = one (leb-true (length (answer_text answer)) count e)
    by_size false e = other

answer_each : (P : RBody → Type 0) (count : ℕ) (ph : Phase) → ((answer : RpcAnswer) → P (told count answer)) → Each P (answer_read count ph)
answer_each P count (Kept answer) p = p answer
answer_each P count Resting p = tt
answer_each P count (IsStored request) p = tt
answer_each P count Seeking p = tt
answer_each P count (OnConfirm serial) p = tt
answer_each P count OnNeedkey p = tt
answer_each P count OnServer p = tt

talk_each : (P : RBody → Type 0) (word : List ℕ) (count : ℕ) (o : Option ℕ) (done : List Deed) → ((answer : RpcAnswer) → P (told count answer)) → Each P (talk_read word count o done)
talk_each P word count None done p = tt
talk_each P word count (Some conv) done p = answer_each P count (standing_of (carried conv word done) conv).phase p

line_each : (P : RBody → Type 0) (count : ℕ) (lines : List (List ℕ)) (what : Found) → found count lines ≡ what → ((line : List ℕ) → length line ≤ count → P (r.Read line)) → P too_small → Each P (line_read_reply what)
line_each P count lines Nothing e p q = tt
line_each P count lines TooLong e p q = q
line_each P count lines (First line) e p q = p line (found_fits count lines line e)

-- a read is answered by what rpc answers, by a line, or by what the file gives
pub read_each : (P : RBody → Type 0) (done : List Deed) (call : Call) (fid offset count : ℕ) (node : Node) → ((answer : RpcAnswer) → P (told count answer)) → ((line : List ℕ) → length line ≤ count → P (r.Read line)) → P too_small
    → P (r.Read (content_of done call.conn fid offset count node)) → Each P (read_reply done call fid offset count node)
read_each P done call fid offset count node p line small q =
    either_each P (is_rpc node) (talk_read call.word count (conv_of done call.conn fid) done) _ (talk_each P call.word count (conv_of done call.conn fid) done p)
    (either_each P (is_line_file node) (line_read_reply (found count (lines_in done node))) (Some (r.Read (content_of done call.conn fid offset count node))) (line_each P count (lines_in done node) (found count (lines_in done node)) refl line small) q)

-- a write is answered by its count, or by a text
pub write_each : (P : RBody → Type 0) (done : List Deed) (content : List ℕ) (node : Node) → P (r.Write (length content)) → ((o : Option (List ℕ)) → Tells o → P (written content o)) → P (write_reply done content node)
write_each P done content node p q = by_file (is_rpc node || is_some (kind_at node))
  where
    by_file : (b : Bool) → P (cond b (r.Write (length content)) (written content (lines_fault (keys_of done) (lines_of content))))
    by_file true = p
    by_file false = q (lines_fault (keys_of done) (lines_of content)) (lines_tell (keys_of done) (lines_of content))

-- all replies but what a read gives
abbrev OtherFits : RBody → Type 0
OtherFits body = gives_content body ≡ false → FitsIn 256 body

other_fits : (done : List Deed) (call : Call) (body : TBody) → IsFew body → Each OtherFits (reply_of done call body)
unfolding reply_of
other_fits done call (t.Version msize version) few = λ other. omega (arith, told_short (version_text (is_known version)) (version_told (is_known version)))
other_fits done call (t.Auth afid uname aname) few = λ other. omega arith
other_fits done call (t.Attach fid afid uname aname) few = λ other. omega arith
other_fits done call (t.Flush oldtag) few = λ other. omega arith
other_fits done call (t.Walk fid newfid wname) few =
    let nodes = visited (node_of (fid_of done call.conn fid)) wname in
    λ other. omega (arith, few, qids_len (map qid_of nodes), length-map nodes qid_of, at_most (node_of (fid_of done call.conn fid)) wname)
other_fits done call (t.Open fid mode) few = λ other. omega arith
other_fits done call (t.Create fid name perm mode) few = λ other. omega arith
other_fits done call (t.Read fid offset count) few =
    let most = effective count (msize_of done call.conn) in
    read_each OtherFits done call fid offset most (node_of (fid_of done call.conn fid)) (λ answer. told_each OtherFits most answer (λ small other. absurd cc) (λ other. omega arith)) (λ line small other. absurd cc) (λ other. omega arith) (λ other. absurd cc)
other_fits done call (t.Write fid offset content) few = write_each OtherFits done content (node_of (fid_of done call.conn fid)) (λ other. omega arith) (λ o tells other. written_fits content o tells)
other_fits done call (t.Clunk fid) few = λ other. omega arith
other_fits done call (t.Remove fid) few = λ other. omega arith
other_fits done call (t.Stat fid) few = λ other. omega (arith, size_small (node_of (fid_of done call.conn fid)))
other_fits done call (t.Wstat fid stat) few = λ other. omega arith

granted_other : (done : List Deed) (call : Call) (g : Result TBody (List ℕ)) → Gives IsFew g → Each OtherFits (body_for done call g)
granted_other done call (Err text) gives = λ other. error_fits text (gives.told text refl)
granted_other done call (Ok body) gives = other_fits done call body (gives.holds body refl)

-- what a read gives holds so much as is agreed, and no other reply gives content
abbrev ContentFits : ℕ → RBody → Type 0
ContentFits room body = gives_content body ≡ true → FitsIn room body

not_content : (room : ℕ) (bytes : List ℕ) (o : Option (List ℕ)) → ContentFits room (written bytes o)
not_content room bytes None e = absurd cc
not_content room bytes (Some text) e = absurd cc

content_agreed : (done : List Deed) (call : Call) (body : TBody) → SizeFits (msize_of done call.conn) → Each (ContentFits (longest_reply (msize_of done call.conn))) (reply_of done call body)
unfolding reply_of
content_agreed done call (t.Version msize version) h = λ gives. absurd cc
content_agreed done call (t.Auth afid uname aname) h = λ gives. absurd cc
content_agreed done call (t.Attach fid afid uname aname) h = λ gives. absurd cc
content_agreed done call (t.Flush oldtag) h = λ gives. absurd cc
content_agreed done call (t.Walk fid newfid wname) h = λ gives. absurd cc
content_agreed done call (t.Open fid mode) h = λ gives. absurd cc
content_agreed done call (t.Create fid name perm mode) h = λ gives. absurd cc
content_agreed done call (t.Read fid offset count) h =
    let o = msize_of done call.conn in
    let most = effective count o in
    let node = node_of (fid_of done call.conn fid) in
    read_each (ContentFits (longest_reply o)) done call fid offset most node
    (λ answer. told_each (ContentFits (longest_reply o)) most answer (λ small gives. omega (arith, small, effective_fits count o h)) (λ gives. absurd cc))
    (λ line small gives. omega (arith, small, effective_fits count o h)) (λ gives. absurd cc)
    (λ gives. omega (arith, content_fits done call.conn fid offset most node, effective_fits count o h))
content_agreed done call (t.Write fid offset content) h =
    let room = longest_reply (msize_of done call.conn) in
    write_each (ContentFits room) done content (node_of (fid_of done call.conn fid)) (λ gives. absurd cc) (λ o tells. not_content room content o)
content_agreed done call (t.Clunk fid) h = λ gives. absurd cc
content_agreed done call (t.Remove fid) h = λ gives. absurd cc
content_agreed done call (t.Stat fid) h = λ gives. absurd cc
content_agreed done call (t.Wstat fid stat) h = λ gives. absurd cc

granted_content : (done : List Deed) (call : Call) (g : Result TBody (List ℕ)) → SizeFits (msize_of done call.conn) → Each (ContentFits (longest_reply (msize_of done call.conn))) (body_for done call g)
granted_content done call (Err text) h = λ gives. absurd cc
granted_content done call (Ok body) h = content_agreed done call body h

-- ---- how long a frame is

frame_len : (kind tag : ℕ) (fields : List ℕ) → length (frame kind tag fields) ≡ 7 + length fields
unfolding frame
frame_len kind tag fields = omega arith

frame_fits : (room tag : ℕ) (body : RBody) → FitsIn room body → length (frame (r_kind body) tag (r_fields body)) ≤ room
frame_fits room tag body h = omega (arith, frame_len (r_kind body) tag (r_fields body), h)

-- of a reply holds what holds of its body, and it has the tag of its request
pub each_reply : (P : RBody → Type 0) (o : Option RBody) (tag : ℕ) (reply : RMsg) → Each P o → option_map (λ (body : RBody). record { tag = tag; body = body }) o ≡ Some reply → (tag ≡ reply.tag) × P reply.body
each_reply P None tag reply p e = absurd cc
each_reply P (Some body) tag reply p e =
    let same : record { tag = tag; body = body } ≡ reply = cc in
    (ap (λ (m : RMsg). m.tag) same, subst P (ap (λ (m : RMsg). m.body) same) p)

pub others_no_longer : (done : List Deed) (conn : ℕ) (bytes word : List ℕ) (reply : RMsg) → reply_to done conn bytes word ≡ Some reply → gives_content reply.body ≡ false → length (r_frame reply) ≤ least_msize
unfolding reply_to body_to
others_no_longer done conn bytes word reply e other =
    let call = call_of conn bytes word in
    let granted_is = frame_gives IsFew done call bytes (request_few bytes) in
    let each = granted_other done call (granted done call bytes) granted_is in
    frame_fits 256 reply.tag reply.body ((each_reply OtherFits (body_for done call (granted done call bytes)) (tag_of bytes) reply each e).1 other)

content_no_longer : (done : List Deed) (conn : ℕ) (bytes word : List ℕ) (reply : RMsg) → reply_to done conn bytes word ≡ Some reply → SizeFits (msize_of done conn) → gives_content reply.body ≡ true → length (r_frame reply) ≤ longest_reply (msize_of done conn)
unfolding reply_to body_to
content_no_longer done conn bytes word reply e h gives =
    let call = call_of conn bytes word in
    let room = longest_reply (msize_of done conn) in
    let each = granted_content done call (granted done call bytes) h in
    frame_fits room reply.tag reply.body ((each_reply (ContentFits room) (body_for done call (granted done call bytes)) (tag_of bytes) reply each e).1 gives)

no_longer : (done : List Deed) (conn : ℕ) (bytes word : List ℕ) (reply : RMsg) → reply_to done conn bytes word ≡ Some reply → SizeFits (msize_of done conn) → length (r_frame reply) ≤ longest_reply (msize_of done conn)
no_longer done conn bytes word reply e h = elim (cases_Bool (gives_content reply.body)) [
  | inl gives ↦ content_no_longer done conn bytes word reply e h gives
  | inr other ↦ omega (arith, others_no_longer done conn bytes word reply e other, room_least (msize_of done conn) h)
]

pub reply_no_longer : (H : History) (conn : ℕ) (bytes word : List ℕ) (reply : RMsg) → reply_to (deeds H) conn bytes word ≡ Some reply → length (r_frame reply) ≤ longest_reply (msize_of (deeds H) conn)
reply_no_longer H conn bytes word reply e = no_longer (deeds H) conn bytes word reply e (all_agreed H conn)

-- ---- how much a take puts out

abbrev IsShort : RMsg → Type 0
IsShort reply = length (r_frame reply) ≤ 8216

-- a read that waits is of no more bytes than may be read, and its reply, once it has one, fits
abbrev WaitFitsIn : Option ℕ → Wait → Type 0
WaitFitsIn o wait = (wait.count ≤ most_read o) × Each (FitsIn (longest_reply o)) wait.reply

-- what is agreed, what waits and what was replied
pub record Shorts (done : List Deed) : Type 0 where
  pub agreed : AllAgreed done
  pub waiting : (conn : ℕ) → AllByRecursion (WaitFitsIn (msize_of done conn)) (waits done conn)
  pub given : (conn : ℕ) → AllByRecursion IsShort (replies done conn)

-- ---- lists of reads that wait

abbrev Waiting : Option ℕ → List Wait → Type 0
Waiting o ws = AllByRecursion (WaitFitsIn o) ws

read_fits : (o : Option ℕ) (count : ℕ) → SizeFits o → count ≤ most_read o → 11 + count ≤ longest_reply o
read_fits None count h small = omega (arith, small)
read_fits (Some msize) count h small = omega (arith, small, h.0)

told_fits : (o : Option ℕ) (count : ℕ) (answer : RpcAnswer) → SizeFits o → count ≤ most_read o → FitsIn (longest_reply o) (told count answer)
told_fits o count answer h small =
    told_each (FitsIn (longest_reply o)) count answer (λ fitting. omega (arith, fitting, read_fits o count h small)) (omega (arith, room_least o h))

told_so_fits : (o : Option ℕ) (done : List Deed) (conn : ℕ) (wait : Wait) (body : RBody) → SizeFits o → wait.count ≤ most_read o → IsToldSomehow done conn wait body → FitsIn (longest_reply o) body
told_so_fits o done conn wait body h small (inl t) = subst (FitsIn (longest_reply o)) (sym t.says) (told_fits o wait.count t.answer h small)
told_so_fits o done conn wait body h small (inr (node, inl t)) =
    subst (FitsIn (longest_reply o)) (sym t.says) (omega (arith, found_fits wait.count (lines_in t.earlier node) t.line t.first, read_fits o wait.count h small))
told_so_fits o done conn wait body h small (inr (node, inr t)) = subst (FitsIn (longest_reply o)) (sym t.says) (omega (arith, room_least o h))

append_waiting : (o : Option ℕ) (ws : List Wait) (w : Wait) → Waiting o ws → WaitFitsIn o w → Waiting o (ws ++ w ∷ [])
append_waiting o [] w h f = (f, tt)
append_waiting o (x ∷ ws) w h f = (h.0, append_waiting o ws w h.1 f)

filter_waiting : (o : Option ℕ) (p : Wait → Bool) (ws : List Wait) → Waiting o ws → Waiting o (filter p ws)
filter_waiting o p [] h = tt
filter_waiting o p (w ∷ ws) h = elim (cases_Bool (p w)) [
  | inl e ↦ rw e (h.0, filter_waiting o p ws h.1)
  | inr e ↦ rw e (filter_waiting o p ws h.1)
]

first_fits : (room : ℕ) (body : RBody) (old : Option RBody) → FitsIn room body → Each (FitsIn room) old → Each (FitsIn room) (first_of body old)
first_fits room body None f h = f
first_fits room body (Some first) f h = h

settled_fits : (o : Option ℕ) (body : RBody) (w : Wait) → FitsIn (longest_reply o) body → WaitFitsIn o w → WaitFitsIn o (settled_by body w)
settled_fits o body w f h = (h.0, first_fits (longest_reply o) body w.reply f h.1)

tag_waiting : (o : Option ℕ) (tag : ℕ) (body : RBody) (ws : List Wait) → FitsIn (longest_reply o) body → Waiting o ws → Waiting o (settle_tag tag body ws)
tag_waiting o tag body [] f h = tt
tag_waiting o tag body (w ∷ ws) f h = elim (cases_Bool (eqb w.tag tag)) [
  | inl e ↦ rw e (settled_fits o body w f h.0, h.1)
  | inr e ↦ rw e (h.0, tag_waiting o tag body ws f h.1)
]

fid_fits : (b : Bool) (o : Option ℕ) (body : RBody) (w : Wait) → FitsIn (longest_reply o) body → WaitFitsIn o w → WaitFitsIn o (cond b (settled_by body w) w)
fid_fits true o body w f h = settled_fits o body w f h
fid_fits false o body w f h = h

fid_waiting : (o : Option ℕ) (fid : ℕ) (body : RBody) (ws : List Wait) → FitsIn (longest_reply o) body → Waiting o ws → Waiting o (map (settle_fid fid body) ws)
fid_waiting o fid body [] f h = tt
fid_waiting o fid body (w ∷ ws) f h = (fid_fits (eqb w.fid fid) o body w f h.0, fid_waiting o fid body ws f h.1)

-- the wait that is found is so
found_step : (o : Option ℕ) (p : Wait → Bool) (w wait : Wait) (ws : List Wait) (b : Bool) → cond b (Some w) (find p ws) ≡ Some wait → WaitFitsIn o w → (find p ws ≡ Some wait → WaitFitsIn o wait) → WaitFitsIn o wait
found_step o p w wait ws true e h more = let same : w ≡ wait = cc in subst (WaitFitsIn o) same h
found_step o p w wait ws false e h more = more e

found_waiting : (o : Option ℕ) (p : Wait → Bool) (wait : Wait) (ws : List Wait) → find p ws ≡ Some wait → Waiting o ws → WaitFitsIn o wait
found_waiting o p wait [] e h = absurd cc
found_waiting o p wait (w ∷ ws) e h = found_step o p w wait ws (p w) e h.0 (λ f. found_waiting o p wait ws f h.1)

-- the replies of those that are settled
settled_short : (o : Option ℕ) (tag : ℕ) (reply : Option RBody) (rest : List RMsg) → longest_reply o ≤ 8216 → Each (FitsIn (longest_reply o)) reply → AllByRecursion IsShort rest
    → AllByRecursion IsShort (cons_option (option_map (λ (body : RBody). record { tag = tag; body = body }) reply) rest)
settled_short o tag None rest room h more = more
settled_short o tag (Some body) rest room h more = (omega (arith, room, frame_fits (longest_reply o) tag body h), more)

settled_all : (o : Option ℕ) (ws : List Wait) → longest_reply o ≤ 8216 → Waiting o ws → AllByRecursion IsShort (filter_map reply_in ws)
settled_all o [] room h = tt
settled_all o (w ∷ ws) room h = settled_short o w.tag w.reply (filter_map reply_in ws) room h.0.1 (settled_all o ws room h.1)

both_short : (xs ys : List RMsg) → AllByRecursion IsShort xs → AllByRecursion IsShort ys → AllByRecursion IsShort (xs ++ ys)
both_short [] ys h k = k
both_short (x ∷ xs) ys h k = (h.0, both_short xs ys h.1 k)

reversed_short : (rs : List RMsg) → AllByRecursion IsShort rs → AllByRecursion IsShort (reverse rs)
reversed_short [] h = tt
reversed_short (reply ∷ rs) h = subst (AllByRecursion IsShort) (sym (reverse-append (reply ∷ []) rs)) (both_short (reverse rs) (reply ∷ []) (reversed_short rs h.1) (h.0, tt))

-- ---- every deed but a request's own reply

abbrev is_other : Deed → Bool
is_other (OfReplies at (Answered tag body)) = false
is_other deed = true

other_by_asked : (conn : ℕ) (deed : Deed) → is_asked conn deed ≡ true → is_other deed ≡ true
other_by_asked conn (OfReplies at (Answered tag body)) e = absurd cc
other_by_asked conn (OfReplies at (Awaited tag fid count)) e = refl
other_by_asked conn (OfReplies at (Settled tag body)) e = refl
other_by_asked conn (OfReplies at (Flushed tag)) e = refl
other_by_asked conn (OfReplies at Taken) e = refl
other_by_asked conn (OfFids at deed) e = refl
other_by_asked conn (OfKeys at deed) e = refl
other_by_asked conn (OfConnection at deed) e = refl
other_by_asked conn (OfTalk conv call) e = refl
other_by_asked conn (Raised conv) e = refl
other_by_asked conn HandedOut e = refl
other_by_asked conn DropTaken e = refl
other_by_asked conn (OfPrompts about doing) e = refl
other_by_asked conn (OfLog doing) e = refl
other_by_asked conn Swept e = refl
other_by_asked conn Halted e = refl

other_by_told : (deed : Deed) → is_told_so deed ≡ true → is_other deed ≡ true
other_by_told (OfReplies at (Answered tag body)) e = absurd cc
other_by_told (OfReplies at (Awaited tag fid count)) e = refl
other_by_told (OfReplies at (Settled tag body)) e = refl
other_by_told (OfReplies at (Flushed tag)) e = refl
other_by_told (OfReplies at Taken) e = refl
other_by_told (OfFids at deed) e = refl
other_by_told (OfKeys at deed) e = refl
other_by_told (OfConnection at deed) e = refl
other_by_told (OfTalk conv call) e = refl
other_by_told (Raised conv) e = refl
other_by_told HandedOut e = refl
other_by_told DropTaken e = refl
other_by_told (OfPrompts about doing) e = refl
other_by_told (OfLog doing) e = refl
other_by_told Swept e = refl
other_by_told Halted e = refl

-- a version or a hang drops what waits on its connection
dropped : (b : Bool) (new old : Option ℕ) (ws : List Wait) → Waiting old ws → Waiting (cond b new old) (cond b [] ws)
dropped true new old ws h = tt
dropped false new old ws h = h

on_one : (b : Bool) (o : Option ℕ) (one other : List Wait) → Waiting o one → Waiting o other → Waiting o (cond b one other)
on_one true o one other h k = h
on_one false o one other h k = k

on_it : (b : Bool) (o : Option ℕ) (one other : List Wait) → (b ≡ true → Waiting o one) → Waiting o other → Waiting o (cond b one other)
on_it true o one other h k = h refl
on_it false o one other h k = k

deed_shorts : (Known : Type 0) (done : List Deed) (deed : Deed) → is_other deed ≡ true → FitsIf Known done deed → Shorts done → Shorts (deed ∷ done)
deed_shorts Known done (OfFids c (Versioned msize)) own fits h = record {
  agreed = deed_agreed Known c done (OfFids c (Versioned msize)) (eq-eqb c c refl) fits h.agreed;
  waiting = λ conn. dropped (eqb c conn) msize (msize_of done conn) (waits done conn) (h.waiting conn);
  given = h.given;
}
deed_shorts Known done (OfFids c (Clunked fid)) own fits h = record {
  agreed = h.agreed;
  waiting = λ conn. on_one (eqb c conn) (msize_of done conn) _ (waits done conn)
      (fid_waiting (msize_of done conn) fid fid_given_up (waits done conn) (omega (arith, room_least (msize_of done conn) (h.agreed conn))) (h.waiting conn)) (h.waiting conn);
  given = h.given;
}
deed_shorts Known done (OfFids c (Attached fid)) own fits h = record { agreed = h.agreed; waiting = h.waiting; given = h.given }
deed_shorts Known done (OfFids c (Walked fid node)) own fits h = record { agreed = h.agreed; waiting = h.waiting; given = h.given }
deed_shorts Known done (OfFids c (Opened fid mode)) own fits h = record { agreed = h.agreed; waiting = h.waiting; given = h.given }
deed_shorts Known done (OfFids c (Listed fid)) own fits h = record { agreed = h.agreed; waiting = h.waiting; given = h.given }
deed_shorts Known done (OfFids c (Browsed fid next)) own fits h = record { agreed = h.agreed; waiting = h.waiting; given = h.given }
deed_shorts Known done (OfKeys c deed) own fits h = record { agreed = h.agreed; waiting = h.waiting; given = h.given }
deed_shorts Known done (OfReplies c (Answered tag body)) own fits h = absurd cc
deed_shorts Known done (OfReplies c (Awaited tag fid count)) own fits h = record {
  agreed = h.agreed;
  waiting = λ conn. on_it (eqb c conn) (msize_of done conn) _ (waits done conn)
      (λ on. append_waiting (msize_of done conn) (waits done conn) (record { tag = tag; fid = fid; count = count; reply = None }) (h.waiting conn) (subst (λ (n : ℕ). count ≤ most_read (msize_of done n)) (eqb-true c conn on) fits.size, tt)) (h.waiting conn);
  given = h.given;
}
deed_shorts Known done (OfReplies c (Settled tag body)) own fits h = record {
  agreed = h.agreed;
  waiting = λ conn. on_it (eqb c conn) (msize_of done conn) _ (waits done conn)
      (λ on. tag_waiting (msize_of done conn) tag body (waits done conn) (subst (λ (n : ℕ). FitsIn (longest_reply (msize_of done n)) body) (eqb-true c conn on)
      (told_so_fits (msize_of done c) done c fits.wait body (h.agreed c) (found_waiting (msize_of done c) fits.test fits.wait (waits done c) fits.found (h.waiting c)).0 fits.told_so)) (h.waiting conn)) (h.waiting conn);
  given = h.given;
}
deed_shorts Known done (OfReplies c (Flushed tag)) own fits h = record {
  agreed = h.agreed;
  waiting = λ conn. on_one (eqb c conn) (msize_of done conn) _ (waits done conn) (filter_waiting (msize_of done conn) (λ (w : Wait). not (eqb w.tag tag)) (waits done conn) (h.waiting conn)) (h.waiting conn);
  given = h.given;
}
deed_shorts Known done (OfReplies c Taken) own fits h = record { agreed = h.agreed; waiting = h.waiting; given = h.given }
deed_shorts Known done (OfConnection c Entered) own fits h = record { agreed = h.agreed; waiting = h.waiting; given = h.given }
deed_shorts Known done (OfConnection c Hung) own fits h = record {
  agreed = deed_agreed Known c done (OfConnection c Hung) (eq-eqb c c refl) fits h.agreed;
  waiting = λ conn. dropped (eqb c conn) None (msize_of done conn) (waits done conn) (h.waiting conn);
  given = h.given;
}
deed_shorts Known done (OfTalk conv call) own fits h = record { agreed = h.agreed; waiting = h.waiting; given = h.given }
deed_shorts Known done (Raised conv) own fits h = record { agreed = h.agreed; waiting = h.waiting; given = h.given }
deed_shorts Known done HandedOut own fits h = record { agreed = h.agreed; waiting = h.waiting; given = h.given }
deed_shorts Known done DropTaken own fits h = record { agreed = h.agreed; waiting = h.waiting; given = h.given }
deed_shorts Known done (OfPrompts about doing) own fits h = record { agreed = h.agreed; waiting = h.waiting; given = h.given }
deed_shorts Known done (OfLog doing) own fits h = record { agreed = h.agreed; waiting = h.waiting; given = h.given }
deed_shorts Known done Swept own fits h = record {
  agreed = h.agreed;
  waiting = λ conn. filter_waiting (msize_of done conn) is_unsettled (waits done conn) (h.waiting conn);
  given = λ conn. both_short (reverse (filter_map reply_in (waits done conn))) (replies done conn)
      (reversed_short (filter_map reply_in (waits done conn)) (settled_all (msize_of done conn) (waits done conn) (room_most (msize_of done conn) (h.agreed conn)) (h.waiting conn))) (h.given conn);
}
deed_shorts Known done Halted own fits h = record { agreed = λ conn. tt; waiting = λ conn. tt; given = h.given }

asked_short : (at : ℕ) → KeepsIf ⊥ (is_asked at) Shorts
asked_short at done deed kind fits h = deed_shorts ⊥ done deed (other_by_asked at deed kind) fits h

told_short_too : KeepsIf ⊥ is_told_so Shorts
told_short_too done deed kind fits h = deed_shorts ⊥ done deed (other_by_told deed kind) fits h

handed_short : KeepsIf ⊥ is_handed Shorts
handed_short done deed kind fits h = deed_shorts ⊥ done deed (other_by_asked 0 deed (asked_by_met 0 deed (met_by_handed deed kind))) fits h

-- ---- events

reply_short : (on : Bool) (reply : RMsg) (rs : List RMsg) → IsShort reply → AllByRecursion IsShort rs → AllByRecursion IsShort (cond on (reply ∷ rs) rs)
reply_short true reply rs short h = (short, h)
reply_short false reply rs short h = h

-- the request's own reply
replied_short : (call : Call) (o : Option RBody) (done : List Deed) → ((body : RBody) → o ≡ Some body → IsShort (record { tag = call.tag; body = body })) → Shorts done → Shorts (replied call o done)
replied_short call None done short h = h
replied_short call (Some body) done short h = record {
  agreed = h.agreed;
  waiting = h.waiting;
  given = λ conn. reply_short (eqb call.conn conn) (record { tag = call.tag; body = body }) (replies done conn) (short body refl) (h.given conn);
}

own_short : (done : List Deed) (at : ℕ) (frame word : List ℕ) → AllAgreed done → (body : RBody) → body_to done (call_of at frame word) frame ≡ Some body → IsShort (record { tag = tag_of frame; body = body })
unfolding reply_to
own_short done at frame word agreed body e =
    let reply : RMsg = record { tag = tag_of frame; body = body } in
    omega (arith, no_longer done at frame word reply (ap (option_map (λ (b : RBody). record { tag = tag_of frame; body = b })) e) (agreed at), room_most (msize_of done at) (agreed at))

entered_short : (at : ℕ) (done : List Deed) → Shorts done → Shorts (entered at done)
entered_short at done h = either_way Shorts (was_opened done at) done (OfConnection at Entered ∷ done) h (deed_shorts ⊥ done (OfConnection at Entered) refl tt h)

request_short : (done : List Deed) (at : ℕ) (frame word : List ℕ) → Shorts done → Shorts (does done (Request at frame word))
request_short done at frame word h =
    let opened = entered at done in
    let call = call_of at frame word in
    let start = entered_short at done h in
    let after = frame_grows ⊥ Shorts call (asked_short at) opened frame (λ x. absurd x) start in
    either_way Shorts (was_hung done at) done _ h
    (swept_grows ⊥ Shorts told_short_too (answered opened call frame) (replied_short call (body_to opened call frame) (after_frame opened call frame) (own_short opened at frame word start.agreed) after))

taking_short : (at : ℕ) (left : List RMsg) (done : List Deed) → Shorts done → Shorts (taking at left done)
taking_short at [] done h = h
taking_short at (reply ∷ rest) done h = deed_shorts ⊥ done (OfReplies at Taken) refl tt h

handing_short : (o : Due) (done : List Deed) → Shorts done → Shorts (handing o done)
handing_short NoneDue done h = h
handing_short (DropDue drop) done h = deed_shorts ⊥ done DropTaken refl tt h
handing_short (QuestionDue question) done h = deed_shorts ⊥ done HandedOut refl tt h

hang_short : (done : List Deed) (at : ℕ) → Shorts done → Shorts (swept (given_up_by (OfConnection at Hung) done))
hang_short done at h =
    let deed = OfConnection at Hung in
    let d = all_withdrawn (ended_by deed done) done in
    swept_grows ⊥ Shorts told_short_too (given_up_by deed done)
    (given_up_grows ⊥ Shorts (λ x p y. absurd y) handed_short deed done (hang_speakers at done d (withdrawn_speakers (ended_by deed done) done)) (λ stay q. deed_shorts ⊥ d deed refl stay q) h)

event_short : (e : Event) (done : List Deed) → Shorts done → Shorts (does done e)
event_short (Request at frame word) done h = request_short done at frame word h
event_short (Take at) done h = either_way Shorts (was_hung done at) done (taking at (untaken done at) (entered at done)) h (taking_short at (untaken done at) (entered at done) (entered_short at done h))
event_short (Hang at) done h = either_way Shorts (was_opened done at && not (was_hung done at)) _ done (hang_short done at h) h
event_short Stop done h = deed_shorts ⊥ done Halted refl tt h
event_short (Answer call bytes) done h = answer_does ⊥ Shorts told_short_too call bytes done (λ x. absurd x) h
event_short (NoAnswer call) done h = no_answer_does ⊥ Shorts told_short_too call done (λ x. absurd x) h
event_short (NoRoom call) done h = no_room_does ⊥ Shorts told_short_too call done (λ x. absurd x) h
event_short TakeAsk done h = handing_short (due done) done h

pub all_short : (H : History) → Shorts (deeds H)
all_short [] = record { agreed = λ conn. tt; waiting = λ conn. tt; given = λ conn. tt }
all_short (e ∷ H) = last_or_not Shorts H e (λ done q. deed_shorts ⊥ done Halted refl tt q) (all_short H) (event_short e (deeds H) (all_short H))

-- no read that waits is of more bytes than may be read
counts_all : (o : Option ℕ) (ws : List Wait) → Waiting o ws → All (λ (wait : Wait). wait.count ≤ most_read o) ws
counts_all o [] h = All-nil (λ (wait : Wait). wait.count ≤ most_read o)
counts_all o (w ∷ ws) h = All-cons (λ (wait : Wait). wait.count ≤ most_read o) w ws h.0.0 (counts_all o ws h.1)

pub counts_fit : (H : History) (conn : ℕ) → All (λ (wait : Wait). wait.count ≤ most_read (msize_of (deeds H) conn)) (waits (deeds H) conn)
counts_fit H conn = counts_all (msize_of (deeds H) conn) (waits (deeds H) conn) ((all_short H).waiting conn)

to_all : (rs : List RMsg) → AllByRecursion IsShort rs → All IsShort rs
to_all [] h = All-nil IsShort
to_all (reply ∷ rs) h = All-cons IsShort reply rs h.0 (to_all rs h.1)

pub frames_no_longer : (H : History) (conn : ℕ) → All (λ (bytes : List ℕ). length bytes ≤ most_msize) (put_out H conn)
frames_no_longer H conn =
    let rs = replies (deeds H) conn in
    let all = All-take IsShort (taken (deeds H) conn) (reverse rs) (to_all (reverse rs) (reversed_short rs ((all_short H).given conn))) in
    let got = subst (All IsShort) (sym (given_in_order H conn)) all in
    subst (All (λ (bytes : List ℕ). length bytes ≤ most_msize)) (sym (frames_put_out H conn)) (All-map (λ (bytes : List ℕ). length bytes ≤ most_msize) r_frame (given H conn) got)
