-- Conversations end by a deed: what is kept of them then.
use Rattle.std.proofs.Common.{◌≡◌, ℕ, List, ◌∷◌, Bool, ◌==◌, ◌&&◌, not, filter, map, Option, Some, None, refl, sym, subst, ◌∙◌}
use Rattle.agent_history.specs.Deeds.{Deed, FidDeed, ConnectionDeed, OfFids, OfKeys, OfReplies, OfConnection, OfTalk, OfPrompts, OfLog, Raised, HandedOut, DropTaken, Swept, Halted, Versioned, Attached, Walked, Opened, Listed, Browsed, Clunked, Entered, Hung}
use Rattle.agent_history.specs.Conversations.{Speaker, all_withdrawn, ended_by, raised, speakers}
use Rattle.agent_talks.specs.declared.held.Talks.{Talks}
use Rattle.agent_talks.specs.declared.files.LineFiles.{LineFiles}
use Rattle.agent_talks.specs.declared.speaker.Leaving.{Leaving}
use Rattle.agent_talks.specs.declared.speaker.Leaving.TheVariants as l
use Rattle.agent_talks.specs.declared.speaker.Speaker.{Speaker as HeldSpeaker}
use Rattle.agent_talks.specs.declared.standing.Conversations.{Conversations}
use Rattle.agent_talks.specs.Ahead.{EndLines, line_in}
use Rattle.agent_talks.specs.Asking.{AskingTalks, Tells, convs_leaving, ended}
use Rattle.agent_talks.specs.Calls.{Calls, left}
use Rattle.agent_talks.specs.Changes.{Leaves, left_at}
use Rattle.agent_talks.specs.Ending.{leaving_of}
use Rattle.agent_talks.specs.Files.{Files}
use Rattle.agent_talks.specs.Keeps.{Converses, Keeps, KeepingTalks}
use Rattle.agent_talks.specs.Kept.{leaves, speaker_of}
use Rattle.agent_talks.specs.Logging.{Logs, asking_of, keeping_of}
use Rattle.agent_talks.proofs.LogLemmas.{AllHaveLines}
use Rattle.agent_talks.specs.Speaks.{Speak}
use Rattle.agent_talks.proofs.EndLemmas.{clunked_tells, hung_tells, versioned_tells}
use Rattle.agent_talks.proofs.LeaveCalls.{clunked_keeps, hung_keeps, left_alike, versioned_keeps}
use Rattle.agent_talks.proofs.OtherDeedLemmas.{left_have, left_lines}
use Rattle.agent_talks.proofs.SpeakLemmas.{clunked_speak, hung_speak, versioned_speak}

-- ---- the three deeds by which conversations end

some_is : (a b : Leaving) → Some a ≡ Some b → a ≡ b
some_is a b e = cc

none_is : {A : Type 0} (a : Leaving) → None ≡ Some a → A
none_is a e = absurd cc

by_ending : (P : Deed → Leaving → Type 0) → ((conn fid : ℕ) → P (OfFids conn (Clunked fid)) (l.Fid conn fid)) → ((conn : ℕ) (msize : Option ℕ) → P (OfFids conn (Versioned msize)) (l.Connection conn)) → ((conn : ℕ) → P (OfConnection conn Hung) (l.Connection conn))
    → (deed : Deed) (who : Leaving) → leaving_of deed ≡ Some who → P deed who
by_ending P clunk version hang (OfFids conn (Clunked fid)) who e = subst (λ (w : Leaving). P (OfFids conn (Clunked fid)) w) (some_is (l.Fid conn fid) who e) (clunk conn fid)
by_ending P clunk version hang (OfFids conn (Versioned msize)) who e = subst (λ (w : Leaving). P (OfFids conn (Versioned msize)) w) (some_is (l.Connection conn) who e) (version conn msize)
by_ending P clunk version hang (OfConnection conn Hung) who e = subst (λ (w : Leaving). P (OfConnection conn Hung) w) (some_is (l.Connection conn) who e) (hang conn)
by_ending P clunk version hang (OfFids conn (Attached fid)) who e = none_is who e
by_ending P clunk version hang (OfFids conn (Walked fid node)) who e = none_is who e
by_ending P clunk version hang (OfFids conn (Opened fid mode)) who e = none_is who e
by_ending P clunk version hang (OfFids conn (Listed fid)) who e = none_is who e
by_ending P clunk version hang (OfFids conn (Browsed fid next)) who e = none_is who e
by_ending P clunk version hang (OfConnection conn Entered) who e = none_is who e
by_ending P clunk version hang (OfKeys conn deed) who e = none_is who e
by_ending P clunk version hang (OfReplies conn deed) who e = none_is who e
by_ending P clunk version hang (OfTalk conv call) who e = none_is who e
by_ending P clunk version hang (OfPrompts kind call) who e = none_is who e
by_ending P clunk version hang (OfLog call) who e = none_is who e
by_ending P clunk version hang (Raised conv) who e = none_is who e
by_ending P clunk version hang HandedOut who e = none_is who e
by_ending P clunk version hang DropTaken who e = none_is who e
by_ending P clunk version hang Swept who e = none_is who e
by_ending P clunk version hang Halted who e = none_is who e

-- ---- conversations and their questions

pub ended_speak : (done : List Deed) (old new : Talks) (deed : Deed) (who : Leaving) → leaving_of deed ≡ Some who → Leaves old new who → Speak done old → Speak (deed ∷ done) new
ended_speak done old new deed who e = by_ending (λ deed who. Leaves old new who → Speak done old → Speak (deed ∷ done) new) (λ conn fid leave h. clunked_speak done old new conn fid leave h) (λ conn msize leave h. versioned_speak done old new conn msize leave h) (λ conn leave h. hung_speak done old new conn leave h) deed who e

-- ---- connections

abbrev GivesUp : Deed → Leaving → Type 0
GivesUp deed who = (done : List Deed) (behind : ℕ) (xs : List HeldSpeaker) (old new : Calls) → behind ≡ raised done → map speaker_of xs ≡ speakers done → new ≡ left who behind xs old → Keeps done old → Keeps (deed ∷ done) new

gives_up : (deed : Deed) (who : Leaving) → leaving_of deed ≡ Some who → GivesUp deed who
gives_up deed who e = by_ending GivesUp
    (λ conn fid done behind xs old new b there is h. clunked_keeps done conn fid behind xs old new b there is h)
    (λ conn msize done behind xs old new b there is h. versioned_keeps done conn msize behind xs old new b there is h)
    (λ conn done behind xs old new b there is h. hung_keeps done conn behind xs old new b there is h) deed who e

-- ---- questions to users

abbrev Withdraws : Deed → Leaving → Type 0
Withdraws deed who = (done : List Deed) (old : AskingTalks) (talks : KeepingTalks) (files : LineFiles) (xs : List HeldSpeaker) → map speaker_of xs ≡ speakers done
    → ((d : List Deed) → Files d old.files → Files (all_withdrawn (convs_leaving who xs) d) files) → ((d : List Deed) → Converses d old.talks → Converses (deed ∷ d) talks) → Tells done old → Tells (ended deed done) (record { talks = talks; files = files })

withdraws : (deed : Deed) (who : Leaving) → leaving_of deed ≡ Some who → Withdraws deed who
withdraws deed who e = by_ending Withdraws
    (λ conn fid done old talks files xs there lines ends h. clunked_tells done conn fid old talks files xs there lines ends h)
    (λ conn msize done old talks files xs there lines ends h. versioned_tells done conn msize old talks files xs there lines ends h)
    (λ conn done old talks files xs there lines ends h. hung_tells done conn old talks files xs there lines ends h) deed who e

-- ---- lines of ends

abbrev DropsLines : Deed → Leaving → Type 0
DropsLines deed who = (done : List Deed) (xs ys : List HeldSpeaker) (old new : Conversations) → map speaker_of xs ≡ speakers done → filter (λ s. leaves who s) ys ≡ filter (λ s. leaves who s) xs
    → ((q : ℕ) → line_in new.ends q ≡ left_at who ys q (line_in old.ends q)) → AllHaveLines done old → AllHaveLines (ended deed done) new

drops_lines : (deed : Deed) (who : Leaving) → leaving_of deed ≡ Some who → DropsLines deed who
drops_lines deed who e = by_ending DropsLines
    (λ conn fid done xs ys old new there same lines h.
    let d : Deed = OfFids conn (Clunked fid) in
    let keep : Speaker → Bool = λ s. not (s.conn == conn && s.fid == fid) in
    left_have done (ended d done) (ended_by d done) keep old new refl (λ q. refl) (left_lines done (ended d done) (ended_by d done) (l.Fid conn fid) keep (λ s. refl) xs ys there same refl old.ends new.ends lines) h)
    (λ conn msize done xs ys old new there same lines h.
    let d : Deed = OfFids conn (Versioned msize) in
    let keep : Speaker → Bool = λ s. not (s.conn == conn) in
    left_have done (ended d done) (ended_by d done) keep old new refl (λ q. refl) (left_lines done (ended d done) (ended_by d done) (l.Connection conn) keep (λ s. refl) xs ys there same refl old.ends new.ends lines) h)
    (λ conn done xs ys old new there same lines h.
    let d : Deed = OfConnection conn Hung in
    let keep : Speaker → Bool = λ s. not (s.conn == conn) in
    left_have done (ended d done) (ended_by d done) keep old new refl (λ q. refl) (left_lines done (ended d done) (ended_by d done) (l.Connection conn) keep (λ s. refl) xs ys there same refl old.ends new.ends lines) h)
    deed who e

-- ---- all of it

pub ended_logs : (done : List Deed) (old new : Conversations) (behind : ℕ) (ys : List HeldSpeaker) (deed : Deed) (who : Leaving) → leaving_of deed ≡ Some who
    → ((d : List Deed) → Speak d old.talks → behind ≡ raised d) → filter (λ s. leaves who s) ys ≡ filter (λ s. leaves who s) old.talks.speakers
    → ((d : List Deed) → Speak d old.talks → Speak (deed ∷ d) new.talks) → new.calls ≡ left who behind ys old.calls
    → ((d : List Deed) → Files d old.files → Files (all_withdrawn (convs_leaving who ys) d) new.files) → ((q : ℕ) → line_in new.ends q ≡ left_at who ys q (line_in old.ends q))
    → Logs done old → Logs (ended deed done) new
ended_logs done old new behind ys deed who e counted same speak calls files lines h = record {
  tells = withdraws deed who e done (asking_of old) (keeping_of new) new.files old.talks.speakers h.tells.talks.speak.speakers files_by converses h.tells;
  ends = drops_lines deed who e done old.talks.speakers ys old new h.tells.talks.speak.speakers same lines h.ends;
}
  where
    files_by : (d : List Deed) → Files d old.files → Files (all_withdrawn (convs_leaving who old.talks.speakers) d) new.files
    files_by d f = subst (λ (xs : List HeldSpeaker). Files (all_withdrawn (map (λ s. s.conv) xs) d) new.files) same (files d f)

    converses : (d : List Deed) → Converses d (keeping_of old) → Converses (deed ∷ d) (keeping_of new)
    converses d k = record {
      speak = speak d k.speak;
      calls = gives_up deed who e d behind old.talks.speakers old.calls new.calls (counted d k.speak) k.speak.speakers (calls ∙ left_alike who behind ys old.talks.speakers old.calls same) k.calls;
    }
