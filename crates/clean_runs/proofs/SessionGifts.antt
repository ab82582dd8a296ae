-- What a session answers is what the table of the authentication server's deeds allows, and is spelled by its one label.
use Rattle.std.proofs.Common.{◌≡◌, ℕ, ◌<◌, List, [], ◌∷◌, ◌++◌, append-nil, length, take, Option, Some, Ok, Bool, true, false, ◌==◌, if◌then◌else◌, refl, sym, ap, subst, ◌∙◌}
use Rattle.std.proofs.lemmas.Bool.{eq-eqb}
use Rattle.sealing.specs.Fields.{field}
use Rattle.sealing.specs.Request.{request_of}
use Rattle.sealing.specs.declared.request.TicketReq.{TicketReq}
use Rattle.sealing.proofs.RequestLaws.{request_taken}
use Rattle.auth_server.specs.Requests.{Challenge, is_for, kind_of, needed}
use Rattle.auth_server.specs.Answers.{Knowledge, word}
use Rattle.symbolic_runs.specs.declared.kind.MacKind.{MacKind}
use Rattle.symbolic_runs.specs.declared.kind.MacKind.TheVariants.{Apop, Cram}
use Rattle.symbolic_runs.specs.Trees.{Tree, plain, password, digest}
use Rattle.symbolic_runs.specs.Spellings.{Atoms, spelling}
use Rattle.symbolic_runs.specs.Forms.{ticket_request, mail_request, mail_challenge, pair, request}
use Rattle.symbolic_runs.specs.Gifts.{part as piece_of}
use Rattle.symbolic_runs.specs.Sessions.{Deed, Grant, MaySpeak, SessionRow, got, gives_tickets, gives_challenge, gives_vouch, keys, key_and_password, grants_tickets, challenges, vouches, refusal, deed_labels, tickets_given, vouch_given}
use Rattle.symbolic_runs.specs.Runs.{Setting as Symbolic, Run, Arrives}
use Rattle.std.specs.List.{Contains}
use Rattle.wire_histories.specs.Legal.{Setting, known_at}
use Rattle.wire_histories.specs.Sessions.{Came, IsLong, MayCome, answer, held}
use Rattle.clean_runs.specs.KeyNames.{key_name, known_name}
use Rattle.clean_runs.specs.Runs.{grant_by, name_where, tickets_for, vouch_for}
use Rattle.clean_runs.specs.Forms.{IsAnswered, IsRequest, IsRight}
use Rattle.clean_runs.proofs.AnswerBytes.{ChallengeIs, IsReading, answered_challenge, challenge_given, challenge_is, first_word, grant_spells, short_name, vouch_spells}
use Rattle.clean_runs.proofs.SessionStands.{Answered, by_challenge, by_refusal, by_tickets, by_vouch, kind_number}
use Rattle.clean_runs.proofs.Speakers.{used_speaks, user_speaks}

-- ---- how long a request is

ticket_long : (kind : ℕ) (challenge : Option Challenge) (size : ℕ) → kind ≡ 1 → IsLong (needed challenge kind) size → size ≡ 141
ticket_long kind challenge size one long = subst (λ n. IsLong (needed challenge n) size) one long

long_where : (held_so : Bool) (size : ℕ) → held_so ≡ true → IsLong (Some (if held_so then 173 else 141)) size → size ≡ 173
long_where true size is long = long
long_where false size is long = absurd (cc)

answer_long : (kind : MacKind) (challenge : Option Challenge) (size : ℕ) → is_for (kind_number kind) challenge ≡ true → IsLong (needed challenge (kind_number kind)) size → size ≡ 173
answer_long Apop challenge size is long = long_where (is_for 7 challenge) size is long
answer_long Cram challenge size is long = long_where (is_for 12 challenge) size is long

mail_request_is : (kind : MacKind) → mail_request kind ≡ kind_number kind ∷ []
mail_request_is Apop = refl
mail_request_is Cram = refl

mail_is_none : (kind : MacKind) → (kind_number kind == 1) ≡ false
mail_is_none Apop = refl
mail_is_none Cram = refl

-- ---- what a deed gives

pub record Gift (atoms : Atoms) (s : Symbolic) (before : List Deed) (deed : Deed) (b : List ℕ) : Type 0 where
  pub row : SessionRow s.domain s.grants before deed
  pub arrives : (run : Run) → Arrives s run deed
  pub label : Tree
  pub one : deed_labels s.domain s.grants deed ≡ label ∷ []
  pub spells : spelling atoms label ≡ Ok b

-- a request that is to be answered, with its label and what is granted at its number
pub record IsAsked (atoms : Atoms) (z : Setting) (s : Symbolic) (before : List Came) (asked : Came) (number : ℕ) (t : Tree) : Type 0 where
  pub reading : IsReading atoms z number asked.words
  pub domain : s.domain ≡ z.dom
  pub short : length z.dom < 48
  pub may : MayCome (known_at z) before asked
  pub spells : spelling atoms t ≡ Ok asked.request
  pub granted : s.grants number ≡ grant_by z asked.tables (request_of asked.request) t

same_used : (a b : Option (List ℕ)) (m n : List ℕ) → key_and_password a m ≡ key_and_password b n → m ≡ n
same_used a b m n e = cc

module _ (atoms : Atoms) (z : Setting) (s : Symbolic) (before : List Came) (asked : Came) (number : ℕ) (t : Tree) (deeds : List Deed) (is : IsAsked atoms z s before asked number t) where
  abbrev known : ℕ → Knowledge
  known = known_at z

  abbrev given : List ℕ
  given = answer known before asked

  -- tickets for a ticket request
  gives_two : (r : TicketReq) → request_of asked.request ≡ Ok r → r.kind ≡ 1 → spelling atoms (tickets_given (tickets_for z asked.tables r t) number) ≡ Ok given → IsRequest ticket_request t → Gift atoms s (got number t ∷ deeds) (gives_tickets number) given
  gives_two r read one spells form =
      let grant_is : s.grants number ≡ tickets_for z asked.tables r t = is.granted ∙ ap (λ o. grant_by z asked.tables o t) read ∙ ap (λ (b : Bool). if b then tickets_for z asked.tables r t else vouch_for z asked.tables r t) (eq-eqb r.kind 1 one) in
      let chal_is : (s.grants number).chal ≡ form.chal = ap (λ (g : Grant). g.chal) grant_is ∙ ap (λ t. piece_of t 3) form.is in
      let label_is : request ticket_request form.fields (s.grants number).chal ≡ t = ap (request ticket_request form.fields) chal_is ∙ sym form.is in
      let may = (known asked.tables).speaks r.hostid r.uid in
      let server = name_where may (known_name z asked.tables r.authid) in
      let client = name_where may (known_name z asked.tables r.hostid) in
      let used : (s.grants number).used ≡ keys server client = ap (λ (g : Grant). g.used) grant_is in
      let speaks : MaySpeak (s.grants number).speakers client = subst (λ (g : Grant). MaySpeak g.speakers client) (sym grant_is) (used_speaks z asked.tables r.hostid r.uid) in
      record {
        row = subst (λ t. SessionRow s.domain s.grants (got number t ∷ deeds) (gives_tickets number)) label_is (grants_tickets form.fields server client form.whole used speaks);
        arrives = λ run. tt;
        label = tickets_given (s.grants number) number;
        one = refl;
        spells = ap (λ g. spelling atoms (tickets_given g number)) grant_is ∙ spells;
      }

  two_spell : (r : TicketReq) → request_of asked.request ≡ Ok r → r.kind ≡ 1 → IsRequest ticket_request t → ChallengeIs atoms (piece_of t 3) r.chal
  two_spell r read one form =
      let taken = request_taken asked.request r read in
      let spells : spelling atoms (request (1 ∷ []) form.fields form.chal) ≡ Ok asked.request = subst (λ t. spelling atoms t ≡ Ok asked.request) form.is is.spells in
      let long : length asked.request ≡ 141 = ticket_long (kind_of asked.request) (held known before) (length asked.request) (taken.kind ∙ one) is.may.long in
      let here : ChallengeIs atoms form.chal (field 77 8 (asked.request ++ [])) = challenge_is atoms 1 form.fields form.chal asked.request [] form.whole spells long in
      let chal : field 77 8 (asked.request ++ []) ≡ r.chal = ap (λ b. field 77 8 b) (append-nil asked.request) ∙ taken.chal in
      let part_is : piece_of t 3 ≡ form.chal = ap (λ t. piece_of t 3) form.is in
      subst (λ x. ChallengeIs atoms x r.chal) (sym part_is) (subst (ChallengeIs atoms form.chal) chal here)

  -- a challenge
  gives_first : (kind : MacKind) → SessionRow s.domain s.grants (got number t ∷ deeds) (gives_challenge kind number (take 6 given)) → spelling atoms (pair (plain (take 6 given)) (mail_challenge s.domain number)) ≡ Ok given → Gift atoms s (got number t ∷ deeds) (gives_challenge kind number (take 6 given)) given
  gives_first kind row spells = record { row = row; arrives = λ run. tt; label = pair (plain (take 6 given)) (mail_challenge s.domain number); one = refl; spells = spells }

  -- what vouches for a right answer
  gives_second : (r : TicketReq) (kind : MacKind) (first : ℕ) → (s.grants number) ≡ vouch_for z asked.tables r t → spelling atoms (vouch_given (vouch_for z asked.tables r t) number) ≡ Ok given → (form : IsRight s kind number first t) → SessionRow s.domain s.grants (got number t ∷ deeds) (gives_vouch kind number first) → Gift atoms s (got number t ∷ deeds) (gives_vouch kind number first) given
  gives_second r kind first grant_is spells form row = record {
    row = row;
    arrives = λ run. tt;
    label = vouch_given (s.grants number) number;
    one = refl;
    spells = ap (λ g. spelling atoms (vouch_given g number)) grant_is ∙ spells;
  }

  second_spells : (r : TicketReq) (kind : MacKind) (first : ℕ) → request_of asked.request ≡ Ok r → r.kind ≡ kind_number kind → is_for r.kind (held known before) ≡ true → (form : IsRight s kind number first t) → ChallengeIs atoms (piece_of (piece_of t 0) 3) r.chal
  second_spells r kind first read number_is yes_held form =
      let taken = request_taken asked.request r read in
      let chal = (s.grants number).chal in
      let whole : t ≡ pair (request (kind_number kind ∷ []) form.fields chal) (digest kind (password form.name) (mail_challenge s.domain first)) = form.is ∙ ap (λ k. pair (request k form.fields chal) (digest kind (password form.name) (mail_challenge s.domain first))) (mail_request_is kind) in
      let spells : spelling atoms (pair (request (kind_number kind ∷ []) form.fields chal) (digest kind (password form.name) (mail_challenge s.domain first))) ≡ Ok asked.request = subst (λ t. spelling atoms t ≡ Ok asked.request) whole is.spells in
      let kind_is : kind_of asked.request ≡ kind_number kind = taken.kind ∙ number_is in
      let long : length asked.request ≡ 173 = answer_long kind (held known before) (length asked.request) (ap (λ n. is_for n (held known before)) (sym number_is) ∙ yes_held) (subst (λ n. IsLong (needed (held known before) n) (length asked.request)) kind_is is.may.long) in
      let here : ChallengeIs atoms chal (field 77 8 asked.request) = answered_challenge atoms (kind_number kind) kind form.fields chal (password form.name) (mail_challenge s.domain first) asked.request form.whole spells long in
      let part_is : piece_of (piece_of t 0) 3 ≡ chal = ap (λ t. piece_of (piece_of t 0) 3) form.is in
      subst (λ x. ChallengeIs atoms x r.chal) (sym part_is) (subst (ChallengeIs atoms chal) taken.chal here)

  pub gift : (deed : Deed) → Answered known before asked deeds number deed → IsAnswered s (got number t ∷ deeds) deed → Gift atoms s (got number t ∷ deeds) deed given
  gift deed (by_tickets r read one answer_is kept) form =
      let taken = request_taken asked.request r read in
      let spells = grant_spells atoms z asked.tables number asked.words is.reading r t (two_spell r read one form) (short_name 85 asked.request r.hostid taken.hostid) (short_name 113 asked.request r.uid taken.uid) in
      gives_two r read one (spells ∙ ap Ok (sym answer_is)) form
  gift deed (by_challenge r kind read number_is free answer_is after) form =
      let c = challenge_given atoms z.dom number (word 0 asked.words) is.reading.drawn.digits (first_word asked.words is.may.three is.may.words) is.short in
      let six : length (take 6 given) ≡ 6 = ap (λ b. length (take 6 b)) answer_is ∙ c.six in
      let spells : spelling atoms (pair (plain (take 6 given)) (mail_challenge s.domain number)) ≡ Ok given = ap (λ d. spelling atoms (pair (plain (take 6 given)) (mail_challenge d number))) is.domain ∙ ap (λ b. spelling atoms (pair (plain (take 6 b)) (mail_challenge z.dom number))) answer_is ∙ c.spells ∙ ap Ok (sym answer_is) in
      gives_first kind (subst (λ t. SessionRow s.domain s.grants (got number t ∷ deeds) (gives_challenge kind number (take 6 given))) (sym form.is) (challenges form.fields {chal = form.chal} form.whole free six)) spells
  gift deed (by_vouch r kind first read number_is yes_held first_is answer_is after has) form =
      let taken = request_taken asked.request r read in
      let no_ticket : (r.kind == 1) ≡ false = ap (λ n. n == 1) number_is ∙ mail_is_none kind in
      let grant_is : s.grants number ≡ vouch_for z asked.tables r t = is.granted ∙ ap (λ o. grant_by z asked.tables o t) read ∙ ap (λ (b : Bool). if b then tickets_for z asked.tables r t else vouch_for z asked.tables r t) no_ticket in
      let name_is : key_name z.tables asked.tables r.uid ≡ form.name = same_used (known_name z asked.tables r.authid) form.sealer (key_name z.tables asked.tables r.uid) form.name (sym (ap (λ (g : Grant). g.used) grant_is) ∙ form.used) in
      let speaks : Contains (s.grants number).speakers form.name = subst (λ n. Contains (s.grants number).speakers n) name_is (subst (λ (g : Grant). Contains g.speakers (key_name z.tables asked.tables r.uid)) (sym grant_is) (user_speaks z asked.tables r.uid has)) in
      let row : SessionRow s.domain s.grants (got number t ∷ deeds) (gives_vouch kind number first) = subst (λ t. SessionRow s.domain s.grants (got number t ∷ deeds) (gives_vouch kind number first)) (sym form.is) (vouches form.fields form.sealer form.name form.whole form.used speaks first_is) in
      gives_second r kind first grant_is (vouch_spells atoms z asked.tables number asked.words is.reading r t (second_spells r kind first read number_is yes_held form) (short_name 113 asked.request r.uid taken.uid) ∙ ap Ok (sym answer_is)) form row
  gift deed (by_refusal kept) form = record { row = refusal; arrives = λ run. tt; label = plain given; one = refl; spells = refl }
