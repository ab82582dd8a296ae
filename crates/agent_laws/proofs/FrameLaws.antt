-- What a request does that stays as it is in a redaction, but for its word, is the same of two lists of deeds that are shown
-- alike.
use Rattle.std.proofs.Common.{◌≡◌, ℕ, List, ◌∷◌, map, Bool, true, false, cond, eqb, ◌&&◌, not, Option, Some, None, refl, sym, ap, ◌∙◌, subst, codes}
use Rattle.std.specs.Prelude.{is_some, Result, Err}
use Rattle.std.specs.List.{filter, list_any}
use Rattle.nine.specs.declared.message.TBody.{TBody}
use Rattle.nine.specs.declared.message.TBody.TheVariants as t
use Rattle.nine.specs.declared.message.TMsg.{TMsg}
use Rattle.nine.specs.Decoding.{request_of}
use Rattle.file_tree.specs.declared.tree.Node.{Node}
use Rattle.file_tree.specs.declared.tree.Node.TheVariants.{Root, Factotum, Rpc, Ctl, Confirm, Needkey, Proto, Log}
use Rattle.file_tree.specs.Tree.{lead_to}
use Rattle.file_tree.specs.Directories.{dir_end}
use Rattle.file_tree.specs.Calls.{node_of}
use Rattle.key_lists.specs.CtlLines.{carried_out, lines_of}
use Rattle.talks.specs.Requests.{RpcRequest}
use Rattle.talks.specs.Requests as rpc
use Rattle.side_files.specs.Lines.{Nothing, TooLong, First, Found as LineFound, found as line_for}
use Rattle.side_files.specs.Replies as prompt
use Rattle.agent_history.specs.Deeds.{Deed, OfFids, OfConnection, Versioned, Attached, Walked, Opened, Listed, Browsed, Clunked, Hung, fid_of, held_by, holder_of, keys_of, msize_of}
use Rattle.agent_history.specs.SideFiles.{is_line_file, kind_at, lines_in}
use Rattle.agent_history.specs.Conversations.{Speaker, conv_of, ended_by, given_up_by, speakers, stands}
use Rattle.agent_history.specs.Requests.{Call, after, after_frame, after_granted, agreed, effective, granted, granted_body, is_over, is_rpc, lacks_version, lines_done, reading, reading_file, reading_line, reading_talk, refusal, repeats_tag, replier, replying, stored, walking, writing}
use Rattle.agent_laws.specs.Laws.{all_open}
use Rattle.agent_laws.proofs.SizedLaws.{Serves, alike, held_sized, holder_sized, sized_sight, speakers_sized}
use Rattle.agent_laws.proofs.AlongLaws.{Along, along_awaited, along_either, along_fids, along_flushed, along_line}
use Rattle.agent_laws.proofs.GoesLaws.{along_given_up, along_replying, prompts_same}
use Rattle.side_files.specs.declared.line.PromptKind.{PromptKind}
use Rattle.side_files.specs.declared.reply.Reply.{Reply}
use Rattle.side_files.specs.Questions.{asker_of}
use Rattle.file_tree.specs.declared.tree.FidState.{FidState}
use Rattle.agent_laws.proofs.KindLaws.{AskersStay, IsKnown}
use Rattle.agent_laws.proofs.MetLaws.{withdrawn_speakers}
use Rattle.agent_laws.proofs.GrowLaws.{hang_speakers, of_message, speakers_leave, unless_refused}
use Rattle.agent_laws.proofs.PromptLaws.{stand_more}
use Rattle.agent_laws.proofs.PublicLaws.{PublicSight, lines_alike, refusal_public, tag_taken}
use Rattle.agent_laws.proofs.ShutLaws.{IsGivenUp}

-- two lists of deeds that are shown alike, and what is known of them
pub record Beside (a b : List Deed) : Type 0 where
  pub along : Along a b
  pub one_serves : Serves a
  pub other_serves : Serves b
  pub one_open : all_open a ≡ true
  pub other_open : all_open b ≡ true
  pub one_known : IsKnown a
  pub other_known : IsKnown b

sight : (a b : List Deed) → Beside a b → PublicSight a b
sight a b s = sized_sight a b s.one_open s.other_open s.along.public

helds : (a b : List Deed) → Beside a b → (conn : ℕ) → held_by a conn ≡ held_by b conn
helds a b s conn = alike (λ done. held_by done conn) (λ done. held_sized done conn) a b s.along.public

holders : (a b : List Deed) → Beside a b → (node : Node) → holder_of a node ≡ holder_of b node
holders a b s node = alike (λ done. holder_of done node) (λ done. holder_sized done node) a b s.along.public

speaking : (a b : List Deed) → Beside a b → speakers a ≡ speakers b
speaking a b s = alike speakers speakers_sized a b s.along.public

-- ---- what refuses a request

-- a request that stays as it is in a redaction, but for its word
abbrev pub is_plain : List Deed → ℕ → TBody → Bool
is_plain done conn (t.Read fid offset count) = not (is_rpc (node_of (fid_of done conn fid)))
is_plain done conn (t.Write fid offset content) = is_some (kind_at (node_of (fid_of done conn fid)))
is_plain done conn body = true

not_true : (b : Bool) → not b ≡ true → b ≡ false
not_true true e = absurd cc
not_true false e = refl

-- a file of questions isn't rpc
no_rpc : (node : Node) → is_some (kind_at node) ≡ true → is_rpc node ≡ false
no_rpc Confirm e = refl
no_rpc Needkey e = refl
no_rpc Root e = absurd cc
no_rpc Factotum e = absurd cc
no_rpc Rpc e = absurd cc
no_rpc Ctl e = absurd cc
no_rpc Proto e = absurd cc
no_rpc Log e = absurd cc

replier_alike : (a b : List Deed) → Beside a b → (kind : Option PromptKind) (reply : Option Reply) → replier a kind reply ≡ replier b kind reply
replier_alike a b s None reply = refl
replier_alike a b s (Some kind) None = refl
replier_alike a b s (Some kind) (Some reply) = ap (asker_of reply.tag) (prompts_same a b s.along kind)

refusal_alike : (a b : List Deed) → Beside a b → (call : Call) (body : TBody) → is_plain b call.conn body ≡ true → refusal a call body ≡ refusal b call body
unfolding refusal
refusal_alike a b s call (t.Version msize version) plain = refl
refusal_alike a b s call (t.Auth afid uname aname) plain = refl
refusal_alike a b s call (t.Attach fid afid uname aname) plain = rw ((sight a b s).fids call.conn fid, helds a b s call.conn) refl
refusal_alike a b s call (t.Flush oldtag) plain = refl
refusal_alike a b s call (t.Walk fid newfid wname) plain = rw ((sight a b s).fids call.conn fid, (sight a b s).fids call.conn newfid, helds a b s call.conn) refl
refusal_alike a b s call (t.Open fid mode) plain = rw ((sight a b s).fids call.conn fid, holders a b s (node_of (fid_of b call.conn fid)), speaking a b s) refl
refusal_alike a b s call (t.Create fid name perm mode) plain = rw ((sight a b s).fids call.conn fid) refl
refusal_alike a b s call (t.Read fid offset count) plain = refusal_public a b (sight a b s) call fid offset count (not_true (is_rpc (node_of (fid_of b call.conn fid))) plain)
refusal_alike a b s call (t.Write fid offset content) plain =
    rw ((sight a b s).fids call.conn fid, no_rpc (node_of (fid_of b call.conn fid)) plain, replier_alike a b s (kind_at (node_of (fid_of b call.conn fid))) (prompt.reply_of content)) refl
refusal_alike a b s call (t.Clunk fid) plain = rw ((sight a b s).fids call.conn fid) refl
refusal_alike a b s call (t.Remove fid) plain = rw ((sight a b s).fids call.conn fid) refl
refusal_alike a b s call (t.Stat fid) plain = rw ((sight a b s).fids call.conn fid) refl
refusal_alike a b s call (t.Wstat fid stat) plain = rw ((sight a b s).fids call.conn fid) refl

granted_alike : (a b : List Deed) → Beside a b → (call : Call) (body : TBody) → is_plain b call.conn body ≡ true → granted_body a call body ≡ granted_body b call body
granted_alike a b s call body plain = rw ((sight a b s).msizes call.conn, tag_taken a b (sight a b s) call.conn call.tag, refusal_alike a b s call body plain) refl

-- ---- what a request does

-- fids that are given up by a request
given_fids : (deed : Deed) (done : List Deed) → ((d : List Deed) → speakers d ≡ speakers done → speakers (deed ∷ d) ≡ speakers (deed ∷ done))
    → ((d : List Deed) → AskersStay d deed → IsKnown d → IsKnown (deed ∷ d)) → IsKnown done → IsGivenUp deed done
given_fids deed done speak more known = record {
  speaks = speak _ (withdrawn_speakers (ended_by deed done) done);
  goes_on = λ stay now. more _ stay now;
  known = known;
}

pub versioned : (at : ℕ) (msize : Option ℕ) (done : List Deed) → IsKnown done → IsGivenUp (OfFids at (Versioned msize)) done
versioned at msize done known = given_fids (OfFids at (Versioned msize)) done (λ d e. ap (λ (ss : List Speaker). filter (λ (s : Speaker). not (eqb s.conn at)) ss) e) (λ d stay now. record { asked = speakers_leave d (λ q. stands (OfFids at (Versioned msize) ∷ d) q.conv) now.asked; prompted = stand_more d (OfFids at (Versioned msize)) (λ of. refl) (λ n. refl) stay now.prompted }) known

pub clunked : (at fid : ℕ) (done : List Deed) → IsKnown done → IsGivenUp (OfFids at (Clunked fid)) done
clunked at fid done known = given_fids (OfFids at (Clunked fid)) done (λ d e. ap (λ (ss : List Speaker). filter (λ (s : Speaker). not (eqb s.conn at && eqb s.fid fid)) ss) e) (λ d stay now. record { asked = speakers_leave d (λ q. stands (OfFids at (Clunked fid) ∷ d) q.conv) now.asked; prompted = stand_more d (OfFids at (Clunked fid)) (λ of. refl) (λ n. refl) stay now.prompted }) known

pub hung : (at : ℕ) (done : List Deed) → IsKnown done → IsGivenUp (OfConnection at Hung) done
hung at done known = given_fids (OfConnection at Hung) done (λ d e. hang_speakers at done d e) (λ d stay now. record { asked = speakers_leave d (λ q. stands (OfConnection at Hung ∷ d) q.conv) now.asked; prompted = stand_more d (OfConnection at Hung) (λ of. refl) (λ n. refl) stay now.prompted }) known

-- who leaves is the same
ends_alike : (a b : List Deed) (deed : Deed) → speakers a ≡ speakers b → speakers (deed ∷ a) ≡ speakers (deed ∷ b) → ended_by deed a ≡ ended_by deed b
ends_alike a b deed e f =
    ap (λ (ss : List Speaker). map (λ (s : Speaker). s.conv) (filter (λ (s : Speaker). not (list_any (λ x. eqb x.conv s.conv) (speakers (deed ∷ a)))) ss)) e
    ∙ ap (λ (ss : List Speaker). map (λ (s : Speaker). s.conv) (filter (λ (s : Speaker). not (list_any (λ x. eqb x.conv s.conv) ss)) (speakers b))) f

pub gone_alike : (deed : Deed) (a b : List Deed) → Beside a b → IsGivenUp deed a → IsGivenUp deed b → ((x y : List Deed) → Along x y → Along (deed ∷ x) (deed ∷ y)) → Along (given_up_by deed a) (given_up_by deed b)
gone_alike deed a b s one other more =
    along_given_up deed a b one other (ends_alike a b deed (speaking a b s) (alike speakers speakers_sized (deed ∷ a) (deed ∷ b) (more a b s.along).public)) more s.along

walking_alike : (conn newfid : ℕ) (o : Option Node) (a b : List Deed) → Along a b → Along (walking conn newfid o a) (walking conn newfid o b)
walking_alike conn newfid None a b e = e
walking_alike conn newfid (Some node) a b e = along_fids conn (Walked newfid node) a b e

reading_alike : (conn fid offset count : ℕ) (node : Node) (a b : List Deed) → Along a b → Along (reading a conn fid offset count node) (reading b conn fid offset count node)
reading_alike conn fid offset count Root a b e = along_fids conn (Browsed fid (dir_end Root offset count)) a b e
reading_alike conn fid offset count Factotum a b e = along_fids conn (Browsed fid (dir_end Factotum offset count)) a b e
reading_alike conn fid offset count Ctl a b e = along_either (eqb offset 0) _ _ a b (along_fids conn (Listed fid) a b e) e
reading_alike conn fid offset count Rpc a b e = e
reading_alike conn fid offset count Confirm a b e = e
reading_alike conn fid offset count Needkey a b e = e
reading_alike conn fid offset count Proto a b e = e
reading_alike conn fid offset count Log a b e = e

reading_line_alike : (call : Call) (fid count : ℕ) (node : Node) (what : LineFound) (a b : List Deed) → Along a b → Along (reading_line call fid count node what a) (reading_line call fid count node what b)
reading_line_alike call fid count node Nothing a b e = along_awaited call.conn call.tag fid count count a b e (λ other. refl)
reading_line_alike call fid count node TooLong a b e = e
reading_line_alike call fid count node (First line) a b e = along_line node a b e

abbrev plain_file : Call → ℕ → ℕ → ℕ → Node → List Deed → List Deed
plain_file call fid offset count node done = cond (is_line_file node) (reading_line call fid count node (line_for count (lines_in done node)) done) (reading done call.conn fid offset count node)

file_alike : (a b : List Deed) → Beside a b → (call : Call) (fid offset count : ℕ) (node : Node) → is_rpc node ≡ false → Along (reading_file a call fid offset count node) (reading_file b call fid offset count node)
file_alike a b s call fid offset count node other =
    subst (λ (c : Bool). Along (cond c (reading_talk call fid count (conv_of a call.conn fid) a) (plain_file call fid offset count node a)) (cond c (reading_talk call fid count (conv_of b call.conn fid) b) (plain_file call fid offset count node b))) (sym other)
    (along_either (is_line_file node) _ _ _ _
    (subst (λ (lines : List (List ℕ)). Along (reading_line call fid count node (line_for count (lines_in a node)) a) (reading_line call fid count node (line_for count lines) b)) (lines_alike a b (sight a b s) node)
    (reading_line_alike call fid count node (line_for count (lines_in a node)) a b s.along))
    (reading_alike call.conn fid offset count node a b s.along))

-- a reply of a user
abbrev of_file : Call → ℕ → List ℕ → Node → List Deed → List Deed
of_file call fid content node done = cond (is_some (kind_at node)) (replying (kind_at node) (prompt.reply_of content) done) (lines_done call.conn (carried_out (keys_of done) (lines_of content)) done)

reply_alike : (a b : List Deed) → Beside a b → (call : Call) (fid : ℕ) (content : List ℕ) (node : Node) → is_some (kind_at node) ≡ true → Along (writing a call fid content node) (writing b call fid content node)
reply_alike a b s call fid content node is =
    subst (λ (c : Bool). Along (cond c (stored (conv_of a call.conn fid) (rpc.request_of content) a) (of_file call fid content node a)) (cond c (stored (conv_of b call.conn fid) (rpc.request_of content) b) (of_file call fid content node b))) (sym (no_rpc node is))
    (subst (λ (c : Bool). Along (cond c (replying (kind_at node) (prompt.reply_of content) a) (lines_done call.conn (carried_out (keys_of a) (lines_of content)) a)) (cond c (replying (kind_at node) (prompt.reply_of content) b) (lines_done call.conn (carried_out (keys_of b) (lines_of content)) b))) (sym is)
    (along_replying (kind_at node) (prompt.reply_of content) a b s.along s.one_serves s.other_serves s.one_known.prompted s.other_known.prompted))

after_alike : (a b : List Deed) → Beside a b → (call : Call) (body : TBody) → is_plain b call.conn body ≡ true → Along (after a call body) (after b call body)
unfolding after
after_alike a b s call (t.Version msize version) plain =
    gone_alike (OfFids call.conn (Versioned (agreed msize version))) a b s (versioned call.conn (agreed msize version) a s.one_known) (versioned call.conn (agreed msize version) b s.other_known) (along_fids call.conn (Versioned (agreed msize version)))
after_alike a b s call (t.Auth afid uname aname) plain = s.along
after_alike a b s call (t.Attach fid afid uname aname) plain = along_fids call.conn (Attached fid) a b s.along
after_alike a b s call (t.Flush oldtag) plain = along_flushed call.conn oldtag a b s.along
after_alike a b s call (t.Walk fid newfid wname) plain =
    subst (λ (o : Option FidState). Along (walking call.conn newfid (lead_to (node_of o) wname) a) (walking call.conn newfid (lead_to (node_of (fid_of b call.conn fid)) wname) b)) (sym ((sight a b s).fids call.conn fid))
    (walking_alike call.conn newfid (lead_to (node_of (fid_of b call.conn fid)) wname) a b s.along)
after_alike a b s call (t.Open fid mode) plain = along_fids call.conn (Opened fid mode) a b s.along
after_alike a b s call (t.Create fid name perm mode) plain = s.along
after_alike a b s call (t.Read fid offset count) plain =
    let most = effective count (msize_of b call.conn) in
    let node = node_of (fid_of b call.conn fid) in
    subst (λ (o : Option FidState). Along (reading_file a call fid offset (effective count (msize_of a call.conn)) (node_of o)) (reading_file b call fid offset most node)) (sym ((sight a b s).fids call.conn fid))
    (subst (λ (o : Option ℕ). Along (reading_file a call fid offset (effective count o) node) (reading_file b call fid offset most node)) (sym ((sight a b s).msizes call.conn))
    (file_alike a b s call fid offset most node (not_true (is_rpc node) plain)))
after_alike a b s call (t.Write fid offset content) plain =
    subst (λ (o : Option FidState). Along (writing a call fid content (node_of o)) (writing b call fid content (node_of (fid_of b call.conn fid)))) (sym ((sight a b s).fids call.conn fid))
    (reply_alike a b s call fid content (node_of (fid_of b call.conn fid)) plain)
after_alike a b s call (t.Clunk fid) plain = gone_alike (OfFids call.conn (Clunked fid)) a b s (clunked call.conn fid a s.one_known) (clunked call.conn fid b s.other_known) (along_fids call.conn (Clunked fid))
after_alike a b s call (t.Remove fid) plain = gone_alike (OfFids call.conn (Clunked fid)) a b s (clunked call.conn fid a s.one_known) (clunked call.conn fid b s.other_known) (along_fids call.conn (Clunked fid))
after_alike a b s call (t.Stat fid) plain = s.along
after_alike a b s call (t.Wstat fid stat) plain = s.along

-- ---- a frame

-- a word is for reads of rpc alone
refusal_worded : (done : List Deed) (conn tag : ℕ) (one other : List ℕ) (body : TBody) → refusal done (record { conn = conn; tag = tag; word = one }) body ≡ refusal done (record { conn = conn; tag = tag; word = other }) body
unfolding refusal
refusal_worded done conn tag one other (t.Version msize version) = refl
refusal_worded done conn tag one other (t.Auth afid uname aname) = refl
refusal_worded done conn tag one other (t.Attach fid afid uname aname) = refl
refusal_worded done conn tag one other (t.Flush oldtag) = refl
refusal_worded done conn tag one other (t.Walk fid newfid wname) = refl
refusal_worded done conn tag one other (t.Open fid mode) = refl
refusal_worded done conn tag one other (t.Create fid name perm mode) = refl
refusal_worded done conn tag one other (t.Read fid offset count) = refl
refusal_worded done conn tag one other (t.Write fid offset content) = refl
refusal_worded done conn tag one other (t.Clunk fid) = refl
refusal_worded done conn tag one other (t.Remove fid) = refl
refusal_worded done conn tag one other (t.Stat fid) = refl
refusal_worded done conn tag one other (t.Wstat fid stat) = refl

after_worded : (done : List Deed) (conn tag : ℕ) (one other : List ℕ) (body : TBody) → is_plain done conn body ≡ true → after done (record { conn = conn; tag = tag; word = one }) body ≡ after done (record { conn = conn; tag = tag; word = other }) body
unfolding after
after_worded done conn tag one other (t.Version msize version) plain = refl
after_worded done conn tag one other (t.Auth afid uname aname) plain = refl
after_worded done conn tag one other (t.Attach fid afid uname aname) plain = refl
after_worded done conn tag one other (t.Flush oldtag) plain = refl
after_worded done conn tag one other (t.Walk fid newfid wname) plain = refl
after_worded done conn tag one other (t.Open fid mode) plain = refl
after_worded done conn tag one other (t.Create fid name perm mode) plain = refl
after_worded done conn tag one other (t.Read fid offset count) plain = rw (not_true (is_rpc (node_of (fid_of done conn fid))) plain) refl
after_worded done conn tag one other (t.Write fid offset content) plain = refl
after_worded done conn tag one other (t.Clunk fid) plain = refl
after_worded done conn tag one other (t.Remove fid) plain = refl
after_worded done conn tag one other (t.Stat fid) plain = refl
after_worded done conn tag one other (t.Wstat fid stat) plain = refl

-- what the tests of a request let through
abbrev pub tested : Bool → Bool → TBody → Option (List ℕ) → Result TBody (List ℕ)
tested x y body o = cond x (Err (codes "no version")) (cond y (Err (codes "duplicate tag")) (unless_refused body o))

pub framed_worded : (done : List Deed) (conn tag : ℕ) (one other : List ℕ) (body : TBody) → is_plain done conn body ≡ true
    → after_granted done (record { conn = conn; tag = tag; word = one }) (granted_body done (record { conn = conn; tag = tag; word = one }) body)
    ≡ after_granted done (record { conn = conn; tag = tag; word = other }) (granted_body done (record { conn = conn; tag = tag; word = other }) body)
framed_worded done conn tag one other body plain =
    let first : Call = record { conn = conn; tag = tag; word = one } in
    let second : Call = record { conn = conn; tag = tag; word = other } in
    ap (λ (o : Option (List ℕ)). after_granted done first (tested (lacks_version done first body) (repeats_tag done first body) body o)) (refusal_worded done conn tag one other body)
    ∙ by_tests (lacks_version done second body) (repeats_tag done second body) (refusal done second body)
  where
    by_tests : (x y : Bool) (o : Option (List ℕ)) → after_granted done (record { conn = conn; tag = tag; word = one }) (tested x y body o) ≡ after_granted done (record { conn = conn; tag = tag; word = other }) (tested x y body o)
    by_tests true y o = refl
    by_tests false true o = refl
    by_tests false false (Some text) = refl
    by_tests false false None = after_worded done conn tag one other body plain

pub framed_alike : (a b : List Deed) → Beside a b → (call : Call) (body : TBody) → is_plain b call.conn body ≡ true → Along (after_granted a call (granted_body a call body)) (after_granted b call (granted_body b call body))
framed_alike a b s call body plain =
    subst (λ (g : Result TBody (List ℕ)). Along (after_granted a call g) (after_granted b call (granted_body b call body))) (sym (granted_alike a b s call body plain))
    (by_tests (lacks_version b call body) (repeats_tag b call body) (refusal b call body))
  where
    by_tests : (x y : Bool) (o : Option (List ℕ)) → Along (after_granted a call (tested x y body o)) (after_granted b call (tested x y body o))
    by_tests true y o = s.along
    by_tests false true o = s.along
    by_tests false false (Some text) = s.along
    by_tests false false None = after_alike a b s call body plain

-- what a frame does, by its message
pub granted_message : (done : List Deed) (call : Call) (frame : List ℕ) (m : TMsg) → is_over (msize_of done call.conn) frame ≡ false → request_of frame ≡ Some m → granted done call frame ≡ granted_body done call m.body
unfolding granted
granted_message done call frame m over is =
    ap (λ (x : Bool). cond x (Err (codes "message over msize")) (of_message done call (codes "bad message") (request_of frame))) over
    ∙ ap (of_message done call (codes "bad message")) is

pub over_frame : (done : List Deed) (call : Call) (frame : List ℕ) → is_over (msize_of done call.conn) frame ≡ true → after_frame done call frame ≡ done
unfolding after_frame granted
over_frame done call frame over = ap (λ (x : Bool). after_granted done call (cond x (Err (codes "message over msize")) (of_message done call (codes "bad message") (request_of frame)))) over

pub bad_frame : (done : List Deed) (call : Call) (frame : List ℕ) → is_over (msize_of done call.conn) frame ≡ false → request_of frame ≡ None → after_frame done call frame ≡ done
unfolding after_frame granted
bad_frame done call frame over is =
    ap (λ (x : Bool). after_granted done call (cond x (Err (codes "message over msize")) (of_message done call (codes "bad message") (request_of frame)))) over
    ∙ ap (λ (o : Option TMsg). after_granted done call (of_message done call (codes "bad message") o)) is

pub framed : (done : List Deed) (call : Call) (frame : List ℕ) → after_frame done call frame ≡ after_granted done call (granted done call frame)
unfolding after_frame
framed done call frame = refl
