-- Two lists of deeds that are the same as they are shown: in public, in their keys without secrets, in the numbers of their
-- questions for the authentication server, and in how each conversation stands. What conversations do next is the same of both.
use Rattle.std.proofs.Common.{◌≡◌, ℕ, zero, suc, ◌+◌, List, [], ◌∷◌, ◌++◌, length, map, Bool, true, false, cond, eqb, ◌&&◌, ◌||◌, Option, Some, None, refl, sym, ap, ◌∙◌, subst, codes}
use Rattle.std.specs.Prelude.{find, option_map, is_some}
use Rattle.std.specs.List.{filter, list_any}
use Rattle.std.proofs.lemmas.Bool.{and_from, and_parts, eq-eqb, eqb-true, or_left}
use Rattle.std.proofs.lemmas.List.{map-append}
use Rattle.nine.specs.declared.message.RBody.{RBody}
use Rattle.nine.specs.declared.message.RBody.TheVariants as r
use Rattle.file_tree.specs.declared.tree.Node.{Node}
use Rattle.file_tree.specs.declared.tree.Node.TheVariants.{Root, Factotum, Rpc, Ctl, Confirm, Needkey, Proto, Log}
use Rattle.key_lists.specs.Lists.{KeyList}
use Rattle.roles.specs.Templates.{shown_text}
use Rattle.talks.specs.declared.answer.RpcAnswer.{RpcAnswer}
use Rattle.talks.specs.declared.answer.RpcAnswer.TheVariants as a
use Rattle.side_files.specs.declared.line.PromptKind.{PromptKind}
use Rattle.side_files.specs.declared.line.PromptKind.TheVariants as k
use Rattle.side_files.specs.Calls as side
use Rattle.side_files.specs.Lines.{Nothing, TooLong, First, Found as LineFound, found as line_for}
use Rattle.talks.specs.declared.said.Said.{Said}
use Rattle.talks.specs.declared.said.Asking.{Asking}
use Rattle.talks.specs.Calls as calls
use Rattle.talks.specs.Lines.{log_lines}
use Rattle.talks.specs.Standings.{Begun, Phase, Resting, Waiting, Seeking, OnConfirm, OnNeedkey, OnServer, Kept, Standing, finds, is_for, need_in, sought_if, standing, template_of, then_stands}
use Rattle.agent_history.specs.Deeds.{Deed, FidDeed, OfFids, OfReplies, OfConnection, ConnectionDeed, OfTalk, Raised, OfPrompts, OfLog, Swept, Halted, Awaited, Settled, Flushed, fid_of, holder_of, is_debug, keys_of}
use Rattle.agent_history.specs.Replies.{Wait, is_unsettled, reader, too_small, waits}
use Rattle.agent_history.specs.SideFiles.{is_line_file, all_served, line_read, lines_in, serve_first, serve_read, serve_reads, served, served_to}
use Rattle.agent_history.specs.Conversations.{Question, Speaker, asking, deliver_to, delivered, fits, give_to, logged, met, of_speakers, prompting, questions, raised, raising, reader_of, seeking, seeking_all, sought, sought_once, speaker_of, speakers, standing_of, talk, then_logged, then_raised, then_sought, then_took, told}
use Rattle.agent_history.specs.Requests.{is_rpc, has_answer, is_resting}
use Rattle.agent_laws.specs.Laws.{ToldRead, is_on_server, lines_told, waits_on_rpc}
use Rattle.agent_laws.proofs.SizedLaws.{Serves, alike, debug_sized, fid_sized, holder_sized, lines_sized, readers_counted, readers_plain, serves_met, sight, speakers_sized, waits_sized}
use Rattle.agent_laws.proofs.MetLaws.{chain_grows, first_holder, raised_then, then_logged_grows}
use Rattle.agent_laws.proofs.GrowLaws.{nothing_known, without_tests}
use Rattle.file_tree.specs.declared.tree.FidState.{FidState}
use Rattle.file_tree.specs.Calls.{node_of}
use Rattle.agent_laws.proofs.LeadLaws.{NextNeed}
use Rattle.agent_laws.proofs.HiddenLaws.{hidden_list}
use Rattle.agent_laws.proofs.KindLaws.{same_number, handed_of_met, is_met}
use Rattle.agent_laws.proofs.ConversationLaws.{found_any, is_at, or_behind, speaks_there}
use Rattle.agent_laws.proofs.PublicLaws.{plain, plain_length, plains}
use Rattle.agent_laws.proofs.SeekLaws.{ShownFound, Chooses, WantsConsent, WantsKey, IsDenied, FindsNone, HasOffers, HasPick, shown_found}
use Rattle.agent_laws.proofs.ShownLaws.{led_of, Shown, ShownPhase, Idle, Waits, Seeks, AtConfirm, AtNeedkey, AtServer, shown, shown_phase, sought_is_shown, sought_shown, told_in}
use Rattle.agent_laws.proofs.CallLaws.{lines_are_shown, lines_shown, search_by, search_is_shown, template_is_shown, template_shown, took_is_shown}

-- ---- what is the same

-- a question by its number and its conversation
abbrev pub numbered : Question → ℕ × ℕ
numbered q = (q.call, q.conv)

abbrev pub numbers : List Deed → List (ℕ × ℕ)
numbers done = map numbered (questions done)

pub record Along (a b : List Deed) : Type 0 where
  pub public : sight a ≡ sight b
  pub keys : hidden_list (keys_of a) ≡ hidden_list (keys_of b)
  pub asked : numbers a ≡ numbers b
  pub asks : raised a ≡ raised b
  pub talks : (n : ℕ) → shown (standing_of a n) ≡ shown (standing_of b n)
  pub settled : lines_told a ≡ lines_told b

-- ---- a deed that no conversation met

filter_step : (p : Question → Bool) (t : ℕ × ℕ → Bool) (q : Question) (x : Bool) (kept : List Question) (shown : List (ℕ × ℕ)) → map numbered kept ≡ shown → map numbered (cond x (q ∷ kept) kept) ≡ cond x (numbered q ∷ shown) shown
filter_step p t q true kept shown e = ap (λ (ns : List (ℕ × ℕ)). numbered q ∷ ns) e
filter_step p t q false kept shown e = e

pub kept_numbers : (t : ℕ × ℕ → Bool) (qs : List Question) → map numbered (filter (λ q. t (numbered q)) qs) ≡ filter t (map numbered qs)
kept_numbers t [] = refl
kept_numbers t (q ∷ qs) = filter_step (λ x. t (numbered x)) t q (t (numbered q)) (filter (λ x. t (numbered x)) qs) (filter t (map numbered qs)) (kept_numbers t qs)

abbrev of_those : List Speaker → ℕ × ℕ → Bool
of_those standing question = list_any (λ s. eqb s.conv question.1) standing

speak_numbers : (ss : List Speaker) (qs : List Question) → map numbered (of_speakers ss qs) ≡ filter (of_those ss) (map numbered qs)
speak_numbers ss qs = kept_numbers (of_those ss) qs

left_numbers : (one other : List Speaker) (a b : List Deed) → one ≡ other → numbers a ≡ numbers b → map numbered (of_speakers one (questions a)) ≡ map numbered (of_speakers other (questions b))
left_numbers one other a b e f =
    speak_numbers one (questions a) ∙ ap (λ (ss : List Speaker). filter (of_those ss) (numbers a)) e ∙ ap (filter (of_those other)) f ∙ sym (speak_numbers other (questions b))

pub along_fids : (conn : ℕ) (deed : FidDeed) (a b : List Deed) → Along a b → Along (OfFids conn deed ∷ a) (OfFids conn deed ∷ b)
along_fids conn deed a b s =
    let shown : sight (OfFids conn deed ∷ a) ≡ sight (OfFids conn deed ∷ b) = ap (λ (d : List Deed). OfFids conn deed ∷ d) s.public in
    record { public = shown; keys = s.keys; asked = left_numbers (speakers (OfFids conn deed ∷ a)) (speakers (OfFids conn deed ∷ b)) a b (alike speakers speakers_sized (OfFids conn deed ∷ a) (OfFids conn deed ∷ b) shown) s.asked; asks = s.asks; talks = s.talks; settled = s.settled }

pub along_connection : (conn : ℕ) (deed : ConnectionDeed) (a b : List Deed) → Along a b → Along (OfConnection conn deed ∷ a) (OfConnection conn deed ∷ b)
along_connection conn deed a b s =
    let shown : sight (OfConnection conn deed ∷ a) ≡ sight (OfConnection conn deed ∷ b) = ap (λ (d : List Deed). OfConnection conn deed ∷ d) s.public in
    record { public = shown; keys = s.keys; asked = left_numbers (speakers (OfConnection conn deed ∷ a)) (speakers (OfConnection conn deed ∷ b)) a b (alike speakers speakers_sized (OfConnection conn deed ∷ a) (OfConnection conn deed ∷ b) shown) s.asked; asks = s.asks; talks = s.talks; settled = s.settled }

pub along_prompts : (kind : PromptKind) (call : side.Call) (a b : List Deed) → Along a b → Along (OfPrompts kind call ∷ a) (OfPrompts kind call ∷ b)
along_prompts kind call a b s = record { public = ap (λ (d : List Deed). OfPrompts kind call ∷ d) s.public; keys = s.keys; asked = s.asked; asks = s.asks; talks = s.talks; settled = s.settled }

pub along_log : (call : side.LogCall) (a b : List Deed) → Along a b → Along (OfLog call ∷ a) (OfLog call ∷ b)
along_log call a b s = record { public = ap (λ (d : List Deed). OfLog call ∷ d) s.public; keys = s.keys; asked = s.asked; asks = s.asks; talks = s.talks; settled = s.settled }

-- whether a read of rpc waits under a tag is public
abbrev on_rpc_of : List Speaker → ℕ → ℕ → Wait → Bool
on_rpc_of standing conn tag wait = eqb wait.tag tag && is_some (option_map (λ s. s.conv) (find (λ s. eqb s.conn conn && eqb s.fid wait.fid) standing))

any_of_plain : (standing : List Speaker) (conn tag : ℕ) (ws : List Wait) → list_any (on_rpc_of standing conn tag) (plains ws) ≡ list_any (on_rpc_of standing conn tag) ws
any_of_plain standing conn tag [] = refl
any_of_plain standing conn tag (w ∷ ws) = ap (λ (b : Bool). on_rpc_of standing conn tag w || b) (any_of_plain standing conn tag ws)

rpc_alike : (conn tag : ℕ) (a b : List Deed) → sight a ≡ sight b → waits_on_rpc a conn tag ≡ waits_on_rpc b conn tag
rpc_alike conn tag a b e =
    sym (any_of_plain (speakers a) conn tag (waits a conn))
    ∙ ap (list_any (on_rpc_of (speakers a) conn tag)) (sym (waits_sized a conn) ∙ ap (λ (d : List Deed). plains (waits d conn)) e ∙ waits_sized b conn)
    ∙ any_of_plain (speakers a) conn tag (waits b conn)
    ∙ ap (λ (ss : List Speaker). list_any (on_rpc_of ss conn tag) (waits b conn)) (alike speakers speakers_sized a b e)

told_step : (conn tag : ℕ) (one other : RBody) (x y : Bool) (xs ys : List ToldRead) → x ≡ y → (y ≡ false → one ≡ other) → xs ≡ ys
    → cond x xs (record { conn = conn; tag = tag; body = one } ∷ xs) ≡ cond y ys (record { conn = conn; tag = tag; body = other } ∷ ys)
told_step conn tag one other x true xs ys e same f = rw e f
told_step conn tag one other x false xs ys e same f = rw (e, same refl, f) refl

-- a read is told; the same of both, where it isn't one of rpc
pub along_settled : (conn tag : ℕ) (one other : RBody) (a b : List Deed) → Along a b → (waits_on_rpc b conn tag ≡ false → one ≡ other) → Along (OfReplies conn (Settled tag one) ∷ a) (OfReplies conn (Settled tag other) ∷ b)
along_settled conn tag one other a b s same = record {
  public = ap (λ (d : List Deed). OfReplies conn (Settled tag r.Flush) ∷ d) s.public;
  keys = s.keys;
  asked = s.asked;
  asks = s.asks;
  talks = s.talks;
  settled = told_step conn tag one other (waits_on_rpc a conn tag) (waits_on_rpc b conn tag) (lines_told a) (lines_told b) (rpc_alike conn tag a b s.public) same s.settled;
}

-- a read of a file waits; of one of rpc the sizes may differ
sized_alike : (conn tag fid : ℕ) (x y : Bool) (m n : ℕ) → x ≡ y → (y ≡ false → m ≡ n) → OfReplies conn (Awaited tag fid (cond x 0 m)) ≡ OfReplies conn (Awaited tag fid (cond y 0 n))
sized_alike conn tag fid x true m n e size = ap (λ (b : Bool). OfReplies conn (Awaited tag fid (cond b 0 m))) e
sized_alike conn tag fid x false m n e size = ap (λ (b : Bool). OfReplies conn (Awaited tag fid (cond b 0 m))) e ∙ ap (λ (k : ℕ). OfReplies conn (Awaited tag fid k)) (size refl)

abbrev reads_rpc : List Deed → ℕ → ℕ → Bool
reads_rpc done conn fid = is_rpc (node_of (fid_of done conn fid))

pub along_awaited : (conn tag fid m n : ℕ) (a b : List Deed) → Along a b → (is_rpc (node_of (fid_of b conn fid)) ≡ false → m ≡ n) → Along (OfReplies conn (Awaited tag fid m) ∷ a) (OfReplies conn (Awaited tag fid n) ∷ b)
along_awaited conn tag fid m n a b s size = record {
  public = ap (λ (deed : Deed). deed ∷ sight a) (sized_alike conn tag fid (reads_rpc a conn fid) (reads_rpc b conn fid) m n (ap (λ (o : Option FidState). is_rpc (node_of o)) (alike (λ done. fid_of done conn fid) (λ done. fid_sized done conn fid) a b s.public)) size)
      ∙ ap (λ (d : List Deed). OfReplies conn (Awaited tag fid (cond (reads_rpc b conn fid) 0 n)) ∷ d) s.public;
  keys = s.keys;
  asked = s.asked;
  asks = s.asks;
  talks = s.talks;
  settled = s.settled;
}

pub along_flushed : (conn tag : ℕ) (a b : List Deed) → Along a b → Along (OfReplies conn (Flushed tag) ∷ a) (OfReplies conn (Flushed tag) ∷ b)
along_flushed conn tag a b s = record { public = ap (λ (d : List Deed). OfReplies conn (Flushed tag) ∷ d) s.public; keys = s.keys; asked = s.asked; asks = s.asks; talks = s.talks; settled = s.settled }

pub along_swept : (a b : List Deed) → Along a b → Along (Swept ∷ a) (Swept ∷ b)
along_swept a b s = record { public = ap (λ (d : List Deed). Swept ∷ d) s.public; keys = s.keys; asked = s.asked; asks = s.asks; talks = s.talks; settled = s.settled }

pub along_halted : (a b : List Deed) → Along a b → Along (Halted ∷ a) (Halted ∷ b)
along_halted a b s = record { public = ap (λ (d : List Deed). Halted ∷ d) s.public; keys = s.keys; asked = refl; asks = s.asks; talks = s.talks; settled = s.settled }

pub along_either : (x : Bool) (one other xs ys : List Deed) → Along one other → Along xs ys → Along (cond x one xs) (cond x other ys)
along_either true one other xs ys p q = p
along_either false one other xs ys p q = q

-- where both choose alike
pub along_choice : (x y : Bool) (one other xs ys : List Deed) → x ≡ y → (y ≡ true → Along one other) → (y ≡ false → Along xs ys) → Along (cond x one xs) (cond y other ys)
along_choice x true one other xs ys e p q = rw e (p refl)
along_choice x false one other xs ys e p q = rw e (q refl)

-- ---- a conversation met something

talk_step : (conv : ℕ) (one other : calls.Call) (a b : List Deed) (n : ℕ) (x : Bool) → eqb conv n ≡ x → shown (standing (one ∷ talk a conv)) ≡ shown (standing (other ∷ talk b conv)) → shown (standing_of a n) ≡ shown (standing_of b n)
    → shown (standing (cond x (one ∷ talk a n) (talk a n))) ≡ shown (standing (cond x (other ∷ talk b n) (talk b n)))
talk_step conv one other a b n true e f g = subst (λ (m : ℕ). shown (standing (one ∷ talk a m)) ≡ shown (standing (other ∷ talk b m))) (eqb-true conv n e) f
talk_step conv one other a b n false e f g = g

pub along_talk : (conv : ℕ) (one other : calls.Call) (a b : List Deed) → Along a b → shown (standing (one ∷ talk a conv)) ≡ shown (standing (other ∷ talk b conv)) → numbers (OfTalk conv one ∷ a) ≡ numbers (OfTalk conv other ∷ b)
    → Along (OfTalk conv one ∷ a) (OfTalk conv other ∷ b)
along_talk conv one other a b s e f = record { public = s.public; keys = s.keys; asked = f; asks = s.asks; talks = λ n. talk_step conv one other a b n (eqb conv n) refl e (s.talks n); settled = s.settled }

-- an answer was read, of one of both
took_step : (done : List Deed) (conv n : ℕ) (x : Bool) → shown (standing (cond x (calls.Took ∷ talk done n) (talk done n))) ≡ shown (standing_of done n)
took_step done conv n true = took_is_shown (talk done n)
took_step done conv n false = refl

took_one : (conv : ℕ) (a b : List Deed) → Along a b → Along (OfTalk conv calls.Took ∷ a) b
took_one conv a b s = record { public = s.public; keys = s.keys; asked = s.asked; asks = s.asks; talks = λ n. took_step a conv n (eqb conv n) ∙ s.talks n; settled = s.settled }

took_other : (conv : ℕ) (a b : List Deed) → Along a b → Along a (OfTalk conv calls.Took ∷ b)
took_other conv a b s = record { public = s.public; keys = s.keys; asked = s.asked; asks = s.asks; talks = λ n. s.talks n ∙ sym (took_step b conv n (eqb conv n)); settled = s.settled }

pub along_took : (conv count most : ℕ) (one other : RpcAnswer) (a b : List Deed) → Along a b → Along (then_took conv count one a) (then_took conv most other b)
along_took conv count most one other a b s = by_it (fits count one) (fits most other)
  where
    by_it : (x y : Bool) → Along (cond x (OfTalk conv calls.Took ∷ a) a) (cond y (OfTalk conv calls.Took ∷ b) b)
    by_it true true = took_one conv a (OfTalk conv calls.Took ∷ b) (took_other conv a b s)
    by_it true false = took_one conv a b s
    by_it false true = took_other conv a b s
    by_it false false = s

-- ---- what is needed of the keys is searched for

abbrev seeks : Phase → Bool
seeks Seeking = true
seeks Resting = false
seeks (Waiting request) = false
seeks (OnConfirm serial) = false
seeks OnNeedkey = false
seeks OnServer = false
seeks (Kept answer) = false

abbrev seeks_shown : ShownPhase → Bool
seeks_shown (Seeks need) = true
seeks_shown Idle = false
seeks_shown (Waits request) = false
seeks_shown (AtConfirm serial need) = false
seeks_shown (AtNeedkey need) = false
seeks_shown AtServer = false

seeks_so : (ph : Phase) (need : NextNeed) → seeks_shown (shown_phase ph need) ≡ seeks ph
seeks_so Seeking need = refl
seeks_so Resting need = refl
seeks_so (Waiting request) need = refl
seeks_so (OnConfirm serial) need = refl
seeks_so OnNeedkey need = refl
seeks_so OnServer need = refl
seeks_so (Kept answer) need = refl

seeks_is : (ph : Phase) → seeks ph ≡ true → ph ≡ Seeking
seeks_is Seeking e = refl
seeks_is Resting e = absurd cc
seeks_is (Waiting request) e = absurd cc
seeks_is (OnConfirm serial) e = absurd cc
seeks_is OnNeedkey e = absurd cc
seeks_is OnServer e = absurd cc
seeks_is (Kept answer) e = absurd cc

seeks_alike : (s t : Standing) → shown s ≡ shown t → seeks s.phase ≡ seeks t.phase
seeks_alike s t e = sym (seeks_so s.phase (led_of s.begun)) ∙ ap (λ (v : Shown). seeks_shown v.phase) e ∙ seeks_so t.phase (led_of t.begun)

-- what is needed while it is searched for
need_alike : (s t : Standing) → shown s ≡ shown t → s.phase ≡ Seeking → t.phase ≡ Seeking → led_of s.begun ≡ led_of t.begun
need_alike s t e one other =
    same_need (led_of s.begun) (led_of t.begun)
    (ap (λ (ph : Phase). shown_phase ph (led_of s.begun)) (sym one) ∙ ap (λ (v : Shown). v.phase) e ∙ ap (λ (ph : Phase). shown_phase ph (led_of t.begun)) other)
  where
    same_need : (one other : NextNeed) → Seeks one ≡ Seeks other → one ≡ other
    same_need one other f = cc

asking_alike : (a b : List Deed) → Along a b → asking a ≡ asking b
asking_alike a b s =
    ap (λ (o : Option (ℕ × ℕ)). record { confirm = is_some o; needkey = is_some (holder_of a Needkey) }) (alike (λ done. holder_of done Confirm) (λ done. holder_sized done Confirm) a b s.public)
    ∙ ap (λ (o : Option (ℕ × ℕ)). record { confirm = is_some (holder_of b Confirm); needkey = is_some o }) (alike (λ done. holder_of done Needkey) (λ done. holder_sized done Needkey) a b s.public)

abbrev finds_of : List Deed → ℕ → calls.Found
finds_of done conv = finds (standing_of done conv) (asking done) (keys_of done)

found_alike : (conv : ℕ) (a b : List Deed) → Along a b → led_of (standing_of a conv).begun ≡ led_of (standing_of b conv).begun → shown_found (finds_of a conv) ≡ shown_found (finds_of b conv)
found_alike conv a b s need =
    let x = standing_of a conv in
    let y = standing_of b conv in
    let e = s.talks conv in
    search_is_shown x (asking a) (keys_of a)
    ∙ ap (λ (n : NextNeed). search_by n (told_in (codes "role") x.begun) x.said (asking a) (hidden_list (keys_of a))) need
    ∙ ap (λ (o : Option (List ℕ)). search_by (led_of y.begun) o x.said (asking a) (hidden_list (keys_of a))) (ap (λ (v : Shown). v.role) e)
    ∙ ap (λ (said : Said). search_by (led_of y.begun) (told_in (codes "role") y.begun) said (asking a) (hidden_list (keys_of a))) (ap (λ (v : Shown). v.said) e)
    ∙ ap (λ (asks : Asking). search_by (led_of y.begun) (told_in (codes "role") y.begun) y.said asks (hidden_list (keys_of a))) (asking_alike a b s)
    ∙ ap (λ (list : KeyList). search_by (led_of y.begun) (told_in (codes "role") y.begun) y.said (asking b) list) s.keys
    ∙ sym (search_is_shown y (asking b) (keys_of b))

-- the question to the user that a search comes to, by its text
abbrev prompts : ℕ → List ℕ → ShownFound → List Deed → List Deed
prompts conv about (WantsConsent serial text) done = OfPrompts k.Confirm (side.Asked conv text) ∷ done
prompts conv about WantsKey done = OfPrompts k.Needkey (side.Asked conv about) ∷ done
prompts conv about Chooses done = done
prompts conv about IsDenied done = done
prompts conv about FindsNone done = done
prompts conv about (HasOffers list) done = done
prompts conv about HasPick done = done

-- the template is that of what was needed before
begun_stays : (s : Standing) (x : Bool) → (sought_if x s calls.AsksKey).begun ≡ s.begun
begun_stays s true = refl
begun_stays s false = refl

asked_about : (done : List Deed) (conv : ℕ) → (standing_of done conv).phase ≡ Seeking → (standing_of (OfTalk conv (calls.Sought calls.AsksKey) ∷ done) conv).begun ≡ (standing_of done conv).begun
asked_about done conv e =
    let s = standing_of done conv in
    ap (λ (x : Bool). (standing (cond x (calls.Sought calls.AsksKey ∷ talk done conv) (talk done conv))).begun) (same_number conv)
    ∙ ap (λ (ph : Phase). (then_stands s ph (calls.Sought calls.AsksKey)).begun) e
    ∙ begun_stays s (is_for (need_in s.begun) calls.AsksKey)

prompts_so : (done : List Deed) (conv : ℕ) (came : calls.Found) → (standing_of done conv).phase ≡ Seeking
    → prompting conv came (OfTalk conv (calls.Sought came) ∷ done) ≡ prompts conv (shown_text (template_of (standing_of done conv).begun)) (shown_found came) (OfTalk conv (calls.Sought came) ∷ done)
prompts_so done conv (calls.Chosen key) e = refl
prompts_so done conv (calls.AsksConsent key) e = refl
prompts_so done conv calls.AsksKey e = ap (λ (begun : Option Begun). OfPrompts k.Needkey (side.Asked conv (shown_text (template_of begun))) ∷ OfTalk conv (calls.Sought calls.AsksKey) ∷ done) (asked_about done conv e)
prompts_so done conv calls.Denied e = refl
prompts_so done conv calls.NoneServes e = refl
prompts_so done conv (calls.Offered list) e = refl
prompts_so done conv (calls.Picked place) e = refl

along_prompting : (conv : ℕ) (about : List ℕ) (came : ShownFound) (a b : List Deed) → Along a b → Along (prompts conv about came a) (prompts conv about came b)
along_prompting conv about (WantsConsent serial text) a b s = along_prompts k.Confirm (side.Asked conv text) a b s
along_prompting conv about WantsKey a b s = along_prompts k.Needkey (side.Asked conv about) a b s
along_prompting conv about Chooses a b s = s
along_prompting conv about IsDenied a b s = s
along_prompting conv about FindsNone a b s = s
along_prompting conv about (HasOffers list) a b s = s
along_prompting conv about HasPick a b s = s

along_sought : (conv : ℕ) (a b : List Deed) → Along a b → (standing_of a conv).phase ≡ Seeking → (standing_of b conv).phase ≡ Seeking → Along (sought conv (finds_of a conv) a) (sought conv (finds_of b conv) b)
along_sought conv a b s one other =
    let x = standing_of a conv in
    let y = standing_of b conv in
    let need = need_alike x y (s.talks conv) one other in
    let came = found_alike conv a b s need in
    let da = OfTalk conv (calls.Sought (finds_of a conv)) ∷ a in
    let db = OfTalk conv (calls.Sought (finds_of b conv)) ∷ b in
    let about : shown_text (template_of x.begun) ≡ shown_text (template_of y.begun) = ap shown_text (template_is_shown x.begun ∙ ap template_shown need ∙ sym (template_is_shown y.begun)) in
    let met_it : Along da db = along_talk conv (calls.Sought (finds_of a conv)) (calls.Sought (finds_of b conv)) a b s
    (sought_is_shown (talk a conv) (finds_of a conv) ∙ ap (λ (f : ShownFound). sought_shown f (shown x)) came ∙ ap (sought_shown (shown_found (finds_of b conv))) (s.talks conv) ∙ sym (sought_is_shown (talk b conv) (finds_of b conv))) s.asked in
    subst (λ (d : List Deed). Along d (prompting conv (finds_of b conv) db)) (sym (prompts_so a conv (finds_of a conv) one))
    (subst (λ (d : List Deed). Along (prompts conv (shown_text (template_of x.begun)) (shown_found (finds_of a conv)) da) d) (sym (prompts_so b conv (finds_of b conv) other))
    (subst (λ (t : List ℕ). Along (prompts conv (shown_text (template_of x.begun)) (shown_found (finds_of a conv)) da) (prompts conv t (shown_found (finds_of b conv)) db)) about
    (subst (λ (f : ShownFound). Along (prompts conv (shown_text (template_of x.begun)) (shown_found (finds_of a conv)) da) (prompts conv (shown_text (template_of x.begun)) f db)) came
    (along_prompting conv (shown_text (template_of x.begun)) (shown_found (finds_of a conv)) da db met_it))))

seeking_by : (conv : ℕ) (ph : Phase) (done : List Deed) → seeking conv ph done ≡ cond (seeks ph) (sought conv (finds_of done conv) done) done
seeking_by conv Seeking done = refl
seeking_by conv Resting done = refl
seeking_by conv (Waiting request) done = refl
seeking_by conv (OnConfirm serial) done = refl
seeking_by conv OnNeedkey done = refl
seeking_by conv OnServer done = refl
seeking_by conv (Kept answer) done = refl

along_once : (conv : ℕ) (a b : List Deed) → Along a b → Along (sought_once conv a) (sought_once conv b)
along_once conv a b s =
    let x = (standing_of a conv).phase in
    let y = (standing_of b conv).phase in
    let e = seeks_alike (standing_of a conv) (standing_of b conv) (s.talks conv) in
    subst (λ (d : List Deed). Along d (sought_once conv b)) (sym (seeking_by conv x a))
    (subst (λ (d : List Deed). Along (cond (seeks x) (sought conv (finds_of a conv) a) a) d) (sym (seeking_by conv y b))
    (along_choice (seeks x) (seeks y) (sought conv (finds_of a conv) a) (sought conv (finds_of b conv) b) a b e
    (λ is. along_sought conv a b s (seeks_is x (e ∙ is)) (seeks_is y is)) (λ is. s)))

along_all : (starting : Bool) (conv : ℕ) (a b : List Deed) → Along a b → Along (seeking_all starting conv a) (seeking_all starting conv b)
along_all true conv a b s =
    along_once conv (sought_once conv (sought_once conv a)) (sought_once conv (sought_once conv b)) (along_once conv (sought_once conv a) (sought_once conv b) (along_once conv a b s))
along_all false conv a b s = along_once conv a b s

along_then_sought : (conv : ℕ) (a b : List Deed) → Along a b → Along (then_sought conv a) (then_sought conv b)
along_then_sought conv a b s =
    subst (λ (x : Bool). Along (then_sought conv a) (seeking_all x conv b)) (ap (λ (v : Shown). v.starting) (s.talks conv)) (along_all (standing_of a conv).starting conv a b s)

-- ---- the authentication server is asked

abbrev asks_shown : ShownPhase → Bool
asks_shown AtServer = true
asks_shown Idle = false
asks_shown (Waits request) = false
asks_shown (Seeks need) = false
asks_shown (AtConfirm serial need) = false
asks_shown (AtNeedkey need) = false

asks_so : (ph : Phase) (need : NextNeed) → asks_shown (shown_phase ph need) ≡ is_on_server ph
asks_so Seeking need = refl
asks_so Resting need = refl
asks_so (Waiting request) need = refl
asks_so (OnConfirm serial) need = refl
asks_so OnNeedkey need = refl
asks_so OnServer need = refl
asks_so (Kept answer) need = refl

pub server_alike : (s t : Standing) → shown s ≡ shown t → is_on_server s.phase ≡ is_on_server t.phase
server_alike s t e = sym (asks_so s.phase (led_of s.begun)) ∙ ap (λ (v : Shown). asks_shown v.phase) e ∙ asks_so t.phase (led_of t.begun)

raising_by : (conv : ℕ) (ph : Phase) (done : List Deed) → raising conv ph done ≡ cond (is_on_server ph) (Raised conv ∷ done) done
raising_by conv Seeking done = refl
raising_by conv Resting done = refl
raising_by conv (Waiting request) done = refl
raising_by conv (OnConfirm serial) done = refl
raising_by conv OnNeedkey done = refl
raising_by conv OnServer done = refl
raising_by conv (Kept answer) done = refl

along_raised : (conv : ℕ) (a b : List Deed) → Along a b → Along (Raised conv ∷ a) (Raised conv ∷ b)
along_raised conv a b s = record {
  public = s.public;
  keys = s.keys;
  asked = map-append numbered (questions a) (record { call = raised a + 1; conv = conv; handed = false } ∷ [])
      ∙ ap (λ (ns : List (ℕ × ℕ)). ns ++ (raised a + 1, conv) ∷ []) s.asked
      ∙ ap (λ (n : ℕ). numbers b ++ (n + 1, conv) ∷ []) s.asks
      ∙ sym (map-append numbered (questions b) (record { call = raised b + 1; conv = conv; handed = false } ∷ []));
  asks = ap (λ (n : ℕ). n + 1) s.asks;
  talks = s.talks;
  settled = s.settled;
}

along_then_raised : (conv : ℕ) (a b : List Deed) → Along a b → Along (then_raised conv a) (then_raised conv b)
along_then_raised conv a b s =
    let x = (standing_of a conv).phase in
    let y = (standing_of b conv).phase in
    subst (λ (d : List Deed). Along d (then_raised conv b)) (sym (raising_by conv x a))
    (subst (λ (d : List Deed). Along (cond (is_on_server x) (Raised conv ∷ a) a) d) (sym (raising_by conv y b))
    (along_choice (is_on_server x) (is_on_server y) (Raised conv ∷ a) (Raised conv ∷ b) a b (server_alike (standing_of a conv) (standing_of b conv) (s.talks conv)) (λ is. along_raised conv a b s) (λ is. s)))

-- ---- lines are written into the log

along_logged : (lines : List (List ℕ)) (a b : List Deed) → Along a b → Along (logged lines a) (logged lines b)
along_logged [] a b s = s
along_logged (line ∷ lines) a b s = along_logged lines (OfLog (side.Pushed line) ∷ a) (OfLog (side.Pushed line) ∷ b) (along_log (side.Pushed line) a b s)

along_then_logged : (conv : ℕ) (one other : Standing) (a b : List Deed) → Along a b → shown one ≡ shown other → Along (then_logged conv one a) (then_logged conv other b)
along_then_logged conv one other a b s e =
    subst (λ (lines : List (List ℕ)). Along (then_logged conv one a) (logged lines b))
    (lines_are_shown (is_debug a) conv one (standing_of a conv)
    ∙ ap (λ (x : Bool). lines_shown x conv (shown one) (shown (standing_of a conv))) (alike is_debug debug_sized a b s.public)
    ∙ ap (λ (v : Shown). lines_shown (is_debug b) conv v (shown (standing_of a conv))) e
    ∙ ap (lines_shown (is_debug b) conv (shown other)) (s.talks conv)
    ∙ sym (lines_are_shown (is_debug b) conv other (standing_of b conv)))
    (along_logged (log_lines (is_debug a) conv one (standing_of a conv)) a b s)

-- ---- reads that wait for a line

pub lines_same : (a b : List Deed) → Along a b → (node : Node) → lines_in a node ≡ lines_in b node
lines_same a b s node = alike (λ done. lines_in done node) (λ done. lines_sized done node) a b s.public

pub along_line : (node : Node) (a b : List Deed) → Along a b → Along (line_read node a) (line_read node b)
along_line Confirm a b s = along_prompts k.Confirm side.Read a b s
along_line Needkey a b s = along_prompts k.Needkey side.Read a b s
along_line Log a b s = along_log side.Taken a b s
along_line Root a b s = s
along_line Factotum a b s = s
along_line Rpc a b s = s
along_line Ctl a b s = s
along_line Proto a b s = s

along_read : (node : Node) (conn tag : ℕ) (what : LineFound) (a b : List Deed) → Along a b → Along (serve_read node conn tag what a) (serve_read node conn tag what b)
along_read node conn tag Nothing a b s = s
along_read node conn tag TooLong a b s = along_settled conn tag too_small too_small a b s (λ no. refl)
along_read node conn tag (First line) a b s = along_settled conn tag (r.Read line) (r.Read line) (line_read node a) (line_read node b) (along_line node a b s) (λ no. refl)

-- the read that waits is of the same tag and size
along_first : (node : Node) (conn : ℕ) (o p : Option Wait) (a b : List Deed) → Along a b → option_map plain o ≡ option_map plain p → option_map (λ w. w.count) o ≡ option_map (λ w. w.count) p → Along (serve_first node conn o a) (serve_first node conn p b)
along_first node conn None None a b s e f = s
along_first node conn None (Some w) a b s e f = absurd cc
along_first node conn (Some v) None a b s e f = absurd cc
along_first node conn (Some v) (Some w) a b s e f =
    let it : plain v ≡ plain w = cc in
    let tag : v.tag ≡ w.tag = ap (λ (x : Wait). x.tag) it in
    let count : v.count ≡ w.count = cc in
    subst (λ (n : ℕ). Along (serve_first node conn (Some v) a) (serve_read node conn n (line_for w.count (lines_in b node)) b)) tag
    (subst (λ (n : ℕ). Along (serve_first node conn (Some v) a) (serve_read node conn v.tag (line_for n (lines_in b node)) b)) count
    (subst (λ (ls : List (List ℕ)). Along (serve_first node conn (Some v) a) (serve_read node conn v.tag (line_for v.count ls) b)) (lines_same a b s node)
    (along_read node conn v.tag (line_for v.count (lines_in a node)) a b s)))

-- a read that is served leaves what is known of reads
line_serves : (node : Node) (done : List Deed) → Serves done → Serves (line_read node done)
line_serves Confirm done s = serves_met done (OfPrompts k.Confirm side.Read) refl s
line_serves Needkey done s = serves_met done (OfPrompts k.Needkey side.Read) refl s
line_serves Log done s = serves_met done (OfLog side.Taken) refl s
line_serves Root done s = s
line_serves Factotum done s = s
line_serves Rpc done s = s
line_serves Ctl done s = s
line_serves Proto done s = s

read_serves : (node : Node) (conn tag : ℕ) (what : LineFound) (done : List Deed) → Serves done → Serves (serve_read node conn tag what done)
read_serves node conn tag Nothing done s = s
read_serves node conn tag TooLong done s = serves_met done (OfReplies conn (Settled tag too_small)) refl s
read_serves node conn tag (First line) done s = serves_met (line_read node done) (OfReplies conn (Settled tag (r.Read line))) refl (line_serves node done s)

first_serves : (node : Node) (conn : ℕ) (o : Option Wait) (done : List Deed) → Serves done → Serves (serve_first node conn o done)
first_serves node conn None done s = s
first_serves node conn (Some wait) done s = read_serves node conn wait.tag (line_for wait.count (lines_in done node)) done s

reads_serve : (n : ℕ) (node : Node) (conn fid : ℕ) (done : List Deed) → Serves done → Serves (serve_reads n node conn fid done)
reads_serve zero node conn fid done s = s
reads_serve (suc n) node conn fid done s = reads_serve n node conn fid (serve_first node conn (reader done conn fid) done) (first_serves node conn (reader done conn fid) done s)

to_serves : (node : Node) (o : Option (ℕ × ℕ)) (done : List Deed) → Serves done → Serves (served_to node o done)
to_serves node None done s = s
to_serves node (Some holder) done s = reads_serve (length (waits done holder.0)) node holder.0 holder.1 done s

served_serves : (node : Node) (done : List Deed) → Serves done → Serves (served node done)
served_serves node done s = to_serves node (holder_of done node) done s

along_reads : (n : ℕ) (node : Node) (conn fid : ℕ) (a b : List Deed) → is_line_file node ≡ true → Along a b → Serves a → Serves b → holder_of a node ≡ Some (conn, fid) → Along (serve_reads n node conn fid a) (serve_reads n node conn fid b)
along_reads zero node conn fid a b line s p q held = s
along_reads (suc n) node conn fid a b line s p q held =
    let there = sym (alike (λ done. holder_of done node) (λ done. holder_sized done node) a b s.public) ∙ held in
    along_reads n node conn fid (serve_first node conn (reader a conn fid) a) (serve_first node conn (reader b conn fid) b) line
    (along_first node conn (reader a conn fid) (reader b conn fid) a b s (readers_plain conn fid a b s.public) (readers_counted conn fid a b s.public p.sizes q.sizes (p.holds node conn fid line held) (q.holds node conn fid line there)))
    (first_serves node conn (reader a conn fid) a p) (first_serves node conn (reader b conn fid) b q) (first_holder node node conn (reader a conn fid) a ∙ held)

wait_count : (conn : ℕ) (a b : List Deed) → Along a b → length (waits a conn) ≡ length (waits b conn)
wait_count conn a b s = sym (plain_length (waits a conn)) ∙ ap length (sym (waits_sized a conn) ∙ ap (λ (d : List Deed). plains (waits d conn)) s.public ∙ waits_sized b conn) ∙ plain_length (waits b conn)

along_served_to : (node : Node) (o : Option (ℕ × ℕ)) (a b : List Deed) → is_line_file node ≡ true → Along a b → Serves a → Serves b → holder_of a node ≡ o → Along (served_to node o a) (served_to node o b)
along_served_to node None a b line s p q held = s
along_served_to node (Some holder) a b line s p q held =
    subst (λ (n : ℕ). Along (served_to node (Some holder) a) (serve_reads n node holder.0 holder.1 b)) (wait_count holder.0 a b s) (along_reads (length (waits a holder.0)) node holder.0 holder.1 a b line s p q held)

along_served : (node : Node) (a b : List Deed) → is_line_file node ≡ true → Along a b → Serves a → Serves b → Along (served node a) (served node b)
along_served node a b line s p q =
    subst (λ (o : Option (ℕ × ℕ)). Along (served node a) (served_to node o b)) (alike (λ done. holder_of done node) (λ done. holder_sized done node) a b s.public) (along_served_to node (holder_of a node) a b line s p q refl)

along_all_served : (a b : List Deed) → Along a b → Serves a → Serves b → Along (all_served a) (all_served b)
along_all_served a b s p q =
    let p1 = served_serves Confirm a p in
    let q1 = served_serves Confirm b q in
    let one = along_served Confirm a b refl s p q in
    let two = along_served Needkey (served Confirm a) (served Confirm b) refl one p1 q1 in
    along_served Log (served Needkey (served Confirm a)) (served Needkey (served Confirm b)) refl two (served_serves Needkey (served Confirm a) p1) (served_serves Needkey (served Confirm b) q1)

-- ---- all that follows on a call

-- up to the lines of the log what is known of reads stays
logged_serves : (conv : ℕ) (call : calls.Call) (before : Standing) (done : List Deed) → Serves done → Serves (then_logged conv before (then_raised conv (then_sought conv (OfTalk conv call ∷ done))))
logged_serves conv call before done s =
    let one = OfTalk conv call ∷ done in
    let now = serves_met done (OfTalk conv call) refl s in
    let sought_it = chain_grows ⊥ Serves (nothing_known Serves) (without_tests is_met Serves serves_met) (standing_of one conv).starting conv one (now, (λ known. absurd known), (λ known. absurd known)) in
    then_logged_grows ⊥ Serves (handed_of_met ⊥ Serves (without_tests is_met Serves serves_met)) conv before (then_raised conv (then_sought conv one))
    (raised_then ⊥ Serves (without_tests is_met Serves serves_met) conv (then_sought conv one) (λ known. absurd known) (λ known. absurd known) sought_it.0)

pub along_met : (conv : ℕ) (one other : calls.Call) (a b : List Deed) → Along a b → Serves a → Serves b → Along (OfTalk conv one ∷ a) (OfTalk conv other ∷ b) → Along (met conv one a) (met conv other b)
along_met conv one other a b before p q s =
    let x = then_raised conv (then_sought conv (OfTalk conv one ∷ a)) in
    let y = then_raised conv (then_sought conv (OfTalk conv other ∷ b)) in
    along_all_served (then_logged conv (standing_of a conv) x) (then_logged conv (standing_of b conv) y)
    (along_then_logged conv (standing_of a conv) (standing_of b conv) x y
    (along_then_raised conv (then_sought conv (OfTalk conv one ∷ a)) (then_sought conv (OfTalk conv other ∷ b)) (along_then_sought conv (OfTalk conv one ∷ a) (OfTalk conv other ∷ b) s)) (before.talks conv))
    (logged_serves conv one (standing_of a conv) a p) (logged_serves conv other (standing_of b conv) b q)

-- ---- an answer that is delivered

-- the read that waits for the answers of a conversation waits on rpc
took_rpc : (conv conn tag : ℕ) (x : Bool) (done : List Deed) → waits_on_rpc (cond x (OfTalk conv calls.Took ∷ done) done) conn tag ≡ waits_on_rpc done conn tag
took_rpc conv conn tag true done = refl
took_rpc conv conn tag false done = refl

waits_step : (standing : List Speaker) (conn fid : ℕ) (v w : Wait) (ws : List Wait) (x : Bool) → (eqb v.fid fid && is_unsettled v) ≡ x → is_some (option_map (λ s. s.conv) (find (λ s. eqb s.conn conn && eqb s.fid fid) standing)) ≡ true → cond x (Some v) (find (λ u. eqb u.fid fid && is_unsettled u) ws) ≡ Some w
    → (find (λ u. eqb u.fid fid && is_unsettled u) ws ≡ Some w → list_any (on_rpc_of standing conn w.tag) ws ≡ true) → list_any (on_rpc_of standing conn w.tag) (v ∷ ws) ≡ true
waits_step standing conn fid v w ws true is speaks e more =
    let same : v ≡ w = cc in
    let at_fid = eqb-true v.fid fid (and_parts (eqb v.fid fid) (is_unsettled v) is).0 in
    or_left (on_rpc_of standing conn w.tag v) (list_any (on_rpc_of standing conn w.tag) ws)
    (and_from (eqb v.tag w.tag) (is_some (option_map (λ s. s.conv) (find (λ s. eqb s.conn conn && eqb s.fid v.fid) standing)))
    (eq-eqb v.tag w.tag (ap (λ (x : Wait). x.tag) same))
    (ap (λ (n : ℕ). is_some (option_map (λ s. s.conv) (find (λ s. eqb s.conn conn && eqb s.fid n) standing))) at_fid ∙ speaks))
waits_step standing conn fid v w ws false is speaks e more = or_behind (on_rpc_of standing conn w.tag v) (list_any (on_rpc_of standing conn w.tag) ws) (more e)

waits_there : (standing : List Speaker) (conn fid : ℕ) (w : Wait) (ws : List Wait) → is_some (option_map (λ s. s.conv) (find (λ s. eqb s.conn conn && eqb s.fid fid) standing)) ≡ true → find (λ u. eqb u.fid fid && is_unsettled u) ws ≡ Some w → list_any (on_rpc_of standing conn w.tag) ws ≡ true
waits_there standing conn fid w [] speaks e = absurd cc
waits_there standing conn fid w (v ∷ ws) speaks e = waits_step standing conn fid v w ws (eqb v.fid fid && is_unsettled v) refl speaks e (waits_there standing conn fid w ws speaks)

on_rpc_there : (conv : ℕ) (who : Speaker) (w : Wait) (done : List Deed) → speaker_of done conv ≡ Some who → reader_of done who ≡ Some w → waits_on_rpc done who.conn w.tag ≡ true
on_rpc_there conv who w done found e =
    waits_there (speakers done) who.conn who.fid w (waits done who.conn)
    (found_any (is_at who.conn who.fid) (speakers done) ∙ speaks_there conv who.conn who.fid who (speakers done) refl refl found) e

along_give : (conv : ℕ) (who : Speaker) (one other : RpcAnswer) (o p : Option Wait) (a b : List Deed) → Along a b → option_map plain o ≡ option_map plain p → speaker_of b conv ≡ Some who → reader_of b who ≡ p → Along (give_to conv who.conn one o a) (give_to conv who.conn other p b)
along_give conv who one other None None a b s e found here = s
along_give conv who one other None (Some w) a b s e found here = absurd cc
along_give conv who one other (Some v) None a b s e found here = absurd cc
along_give conv who one other (Some v) (Some w) a b s e found here =
    let it : plain v ≡ plain w = cc in
    let tag : v.tag ≡ w.tag = ap (λ (x : Wait). x.tag) it in
    let on_rpc : waits_on_rpc (then_took conv w.count other b) who.conn v.tag ≡ true =
    took_rpc conv who.conn v.tag (fits w.count other) b ∙ ap (waits_on_rpc b who.conn) tag ∙ on_rpc_there conv who w b found here in
    subst (λ (n : ℕ). Along (give_to conv who.conn one (Some v) a) (OfReplies who.conn (Settled n (told w.count other)) ∷ then_took conv w.count other b)) tag
    (along_settled who.conn v.tag (told v.count one) (told w.count other) (then_took conv v.count one a) (then_took conv w.count other b) (along_took conv v.count w.count one other a b s)
    (λ no. absurd (let no_way : true ≡ false = sym on_rpc ∙ no in cc)))

abbrev pub answer_in : Phase → RpcAnswer
answer_in (Kept answer) = answer
answer_in Resting = a.Ok
answer_in (Waiting request) = a.Ok
answer_in Seeking = a.Ok
answer_in (OnConfirm serial) = a.Ok
answer_in OnNeedkey = a.Ok
answer_in OnServer = a.Ok

abbrev kept_for : ℕ → RpcAnswer → Option Speaker → List Deed → List Deed
kept_for conv answer None done = done
kept_for conv answer (Some who) done = give_to conv who.conn answer (reader_of done who) done

deliver_by : (conv : ℕ) (ph : Phase) (o : Option Speaker) (done : List Deed) → deliver_to conv ph o done ≡ cond (has_answer ph) (kept_for conv (answer_in ph) o done) done
deliver_by conv (Kept answer) None done = refl
deliver_by conv (Kept answer) (Some who) done = refl
deliver_by conv Resting o done = refl
deliver_by conv (Waiting request) o done = refl
deliver_by conv Seeking o done = refl
deliver_by conv (OnConfirm serial) o done = refl
deliver_by conv OnNeedkey o done = refl
deliver_by conv OnServer o done = refl

along_kept : (conv : ℕ) (one other : RpcAnswer) (o : Option Speaker) (a b : List Deed) → Along a b → speaker_of b conv ≡ o → Along (kept_for conv one o a) (kept_for conv other o b)
along_kept conv one other None a b s found = s
along_kept conv one other (Some who) a b s found = along_give conv who one other (reader_of a who) (reader_of b who) a b s (readers_plain who.conn who.fid a b s.public) found refl

along_deliver : (conv : ℕ) (p q : Phase) (o : Option Speaker) (a b : List Deed) → Along a b → has_answer p ≡ has_answer q → speaker_of b conv ≡ o → Along (deliver_to conv p o a) (deliver_to conv q o b)
along_deliver conv p q o a b s e found =
    subst (λ (d : List Deed). Along d (deliver_to conv q o b)) (sym (deliver_by conv p o a))
    (subst (λ (d : List Deed). Along (cond (has_answer p) (kept_for conv (answer_in p) o a) a) d) (sym (deliver_by conv q o b))
    (along_choice (has_answer p) (has_answer q) (kept_for conv (answer_in p) o a) (kept_for conv (answer_in q) o b) a b e (λ is. along_kept conv (answer_in p) (answer_in q) o a b s found) (λ is. s)))

speaking : (a b : List Deed) → Along a b → (conv : ℕ) → speaker_of a conv ≡ speaker_of b conv
speaking a b s conv = ap (find (λ s. eqb s.conv conv)) (alike speakers speakers_sized a b s.public)

pub along_delivered : (conv : ℕ) (a b : List Deed) → Along a b → has_answer (standing_of a conv).phase ≡ has_answer (standing_of b conv).phase → Along (delivered conv a) (delivered conv b)
along_delivered conv a b s e =
    subst (λ (o : Option Speaker). Along (delivered conv a) (deliver_to conv (standing_of b conv).phase o b)) (speaking a b s conv)
    (along_deliver conv (standing_of a conv).phase (standing_of b conv).phase (speaker_of a conv) a b s e (sym (speaking a b s conv)))

-- where its request doesn't rest, a conversation that waits for nothing has an answer
abbrev idles : ShownPhase → Bool
idles Idle = true
idles (Waits request) = false
idles (Seeks need) = false
idles (AtConfirm serial need) = false
idles (AtNeedkey need) = false
idles AtServer = false

idles_so : (ph : Phase) (need : NextNeed) → is_resting ph ≡ false → idles (shown_phase ph need) ≡ has_answer ph
idles_so Resting need e = absurd cc
idles_so (Kept answer) need e = refl
idles_so (Waiting request) need e = refl
idles_so Seeking need e = refl
idles_so (OnConfirm serial) need e = refl
idles_so OnNeedkey need e = refl
idles_so OnServer need e = refl

pub answers_alike : (s t : Standing) → shown s ≡ shown t → is_resting s.phase ≡ false → is_resting t.phase ≡ false → has_answer s.phase ≡ has_answer t.phase
answers_alike s t e one other = sym (idles_so s.phase (led_of s.begun) one) ∙ ap (λ (v : Shown). idles v.phase) e ∙ idles_so t.phase (led_of t.begun) other
