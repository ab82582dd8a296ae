-- p9any leads both sides to p9sk1 in the domain that is picked, and from there on each meets what it meets in a login by
-- p9sk1 alone.
use Rattle.std.proofs.Common.{◌≡◌, ℕ, ◌<◌, List, [], ◌∷◌, ◌++◌, length, Bool, true, false, not, ◌==◌, codes, refl, sym, ap, subst, ◌∙◌, arith, if◌then◌else◌}
use Rattle.std.proofs.lemmas.Bool.{ne_eqb}
use Rattle.auth_server.specs.Requests.{asked_so}
use Rattle.auth_server.specs.Answers.{answer}
use Rattle.roles.specs.declared.answer.Cause.{Cause}
use Rattle.roles.specs.declared.answer.Cause.TheVariants.{NotOffered}
use Rattle.roles.specs.declared.answer.Gave.{Gave}
use Rattle.roles.specs.declared.answer.Gave.TheVariants as g
use Rattle.roles.specs.declared.stage.Role.{Role}
use Rattle.roles.specs.declared.stage.Role.TheVariants.{Client, Server, Speakfor}
use Rattle.roles.specs.Courses as sk
use Rattle.roles.specs.Starts.{Start, role_of}
use Rattle.roles.specs.Talks.{Call, Verdict, give, get, found, heard, offered, picked, goes, tested}
use Rattle.conv_p9any.specs.declared.stage.Stage.TheVariants.{ServerOffers, ServerKey, ServerFirst, ServerSecond, ClientFirst, ClientPick, ClientSecond, ClientThird}
use Rattle.conv_p9any.specs.Courses.{answer_after, choice_came, chosen_start, course, entered, first_stage, list_came, move, offers_came, puts_after, waits}
use Rattle.conv_p9any.specs.Offers.{choice_of, eligible, is_offered, words}
use Rattle.conv_p9any.specs.Talks.{Standing, choosing, within, needs_any}
use Rattle.conv_p9any.specs.Texts.{text_with_nul, with_text}
use Rattle.complete_logins.specs.Calls.{AllWell, IsWell}
use Rattle.complete_logins.specs.Logins.{Login, LogsIn, MayLogIn, alone, client_asked, client_heard, client_talk, grant_of, question_in, server_greeted, server_shown, server_talk}
use Rattle.complete_logins.specs.Choices.{Choice, FoundKey, IsChosen, MayChoose, chosen, client_chosen, client_picks, dom_of, keys_found, p9sk1, server_chosen, server_offers}
use Rattle.complete_logins.proofs.PassLemmas.{at, well_of}
use Rattle.complete_logins.proofs.LoginLaws.{login_ends}
use Rattle.complete_logins.proofs.TextLemmas.{Offered, choice_is_clean, choice_is_offered, choice_is_short, is_of_list, text_is_read}
use Rattle.complete_logins.proofs.WithinLemmas.{AllInner, Leads, Passes, call_within, ended_within, need_within, outcome_within, passes_by, well_within}

-- the text of the choice
abbrev said : Choice → List ℕ
said c = choice_of (codes "p9sk1") (dom_of c)

abbrev name : List ℕ
name = codes "p9sk1"

is_offer : (c : Choice) → MayChoose c → Offered name (dom_of c) (words c.list)
is_offer c may = is_of_list name c.client c.list c.place may.plain may.picks

-- ---- the server offers

-- keys that it is told lead it back to the offers
begins_so : (c : Choice) → MayChoose c → course p9sk1 c.server [] ≡ at (choosing ServerOffers)
begins_so c may = ap (λ role. at (choosing (first_stage role))) may.server_role

none_there : (c : Choice) (before : List Call) → course p9sk1 c.server before ≡ at (choosing ServerOffers) → Passes c.server before (offered []) (choosing ServerKey) g.Wait []
none_there c before here = passes_by c.server before (offered []) (choosing ServerOffers) (choosing ServerKey) g.Wait [] here refl

key_there : (c : Choice) (before : List Call) (k : FoundKey) → course p9sk1 c.server before ≡ at (choosing ServerOffers) → Passes c.server (offered [] ∷ before) (found k.key k.password) (choosing ServerOffers) g.Wait []
key_there c before k here = passes_by c.server (offered [] ∷ before) (found k.key k.password) (choosing ServerKey) (choosing ServerOffers) g.Wait [] (none_there c before here).course refl

offers_again : (c : Choice) → MayChoose c → (keys : List FoundKey) → course p9sk1 c.server (keys_found keys) ≡ at (choosing ServerOffers)
offers_again c may [] = begins_so c may
offers_again c may (k ∷ earlier) = (key_there c (keys_found earlier) k (offers_again c may earlier)).course

keys_well : (c : Choice) → MayChoose c → (keys : List FoundKey) → AllWell (answer_after p9sk1 c.server) (keys_found keys)
keys_well c may [] = tt
keys_well c may (k ∷ earlier) =
    let here = offers_again c may earlier in
    (well_of (key_there c (keys_found earlier) k here) tt, (well_of (none_there c (keys_found earlier) here) tt, keys_well c may earlier))

server_0 : (c : Choice) → MayChoose c → course p9sk1 c.server (keys_found c.keys) ≡ at (choosing ServerOffers)
server_0 c may = offers_again c may c.keys

some_offers : (list : List ℕ) → 0 < length list → offers_came list ≡ goes (choosing (ServerFirst list)) g.Ok []
some_offers [] some = absurd (omega (arith, some))
some_offers (b ∷ list) some = refl

server_1 : (c : Choice) → MayChoose c → Passes c.server (keys_found c.keys) (offered c.list) (choosing (ServerFirst c.list)) g.Ok []
server_1 c may = passes_by c.server (keys_found c.keys) (offered c.list) (choosing ServerOffers) (choosing (ServerFirst c.list)) g.Ok [] (server_0 c may) (some_offers c.list may.some)

server_2 : (c : Choice) → MayChoose c → Passes c.server (server_offers c) get (choosing (ServerSecond c.list)) g.Ok (text_with_nul c.list)
server_2 c may = passes_by c.server (server_offers c) get (choosing (ServerFirst c.list)) (choosing (ServerSecond c.list)) g.Ok (text_with_nul c.list) (server_1 c may).course refl

-- ---- the client picks

first_is : (role : Role) → (role ≡ Server → ⊥) → first_stage role ≡ ClientFirst
first_is Client other = refl
first_is (Speakfor user) other = refl
first_is Server other = absurd (other refl)

client_0 : (c : Choice) → MayChoose c → course p9sk1 c.client [] ≡ at (choosing ClientFirst)
client_0 c may = ap (λ stage. at (choosing stage)) (first_is (role_of c.client.template) may.client_role)

untested : (fails : Bool) (v : Verdict Standing) (cause : Cause) → fails ≡ false → tested ((fails, cause) ∷ []) v ≡ v
untested fails v cause is = ap (λ (fails : Bool). tested ((fails, cause) ∷ []) v) is

lists : (c : Choice) → MayChoose c → (b : List ℕ) → b ≡ text_with_nul c.list → move p9sk1 c.client (choosing ClientFirst) (give b) ≡ goes (choosing (ClientPick c.list)) g.Wait []
lists c may b is =
    ap (list_came name c.client) is
    ∙ ap (λ text. with_text text (λ list. tested ((length (eligible name c.client list) == 0, NotOffered) ∷ []) (goes (choosing (ClientPick list)) g.Wait []))) (text_is_read c.list may.clean may.fits)
    ∙ untested (length (eligible name c.client c.list) == 0) (goes (choosing (ClientPick c.list)) g.Wait []) NotOffered (ne_eqb (length (eligible name c.client c.list)) 0 (λ none. omega (arith, none, may.picks)))

client_1 : (c : Choice) → MayChoose c → Passes c.client [] (give (puts_after p9sk1 c.server (server_offers c) get)) (choosing (ClientPick c.list)) g.Wait []
client_1 c may = passes_by c.client [] (give (puts_after p9sk1 c.server (server_offers c) get)) (choosing ClientFirst) (choosing (ClientPick c.list)) g.Wait [] (client_0 c may) (lists c may _ (server_2 c may).puts)

client_2 : (c : Choice) → MayChoose c → Passes c.client (give (puts_after p9sk1 c.server (server_offers c) get) ∷ []) (picked c.place) (choosing (ClientSecond c.list c.place)) g.Ok []
client_2 c may = passes_by c.client (give (puts_after p9sk1 c.server (server_offers c) get) ∷ []) (picked c.place) (choosing (ClientPick c.list)) (choosing (ClientSecond c.list c.place)) g.Ok [] (client_1 c may).course refl

-- what a choice is answered, by the need of the role
abbrev begins : Start → List ℕ → Gave
begins start text = waits (sk.need_after (chosen_start p9sk1 start text) [])

chooses : (c : Choice) → MayChoose c → move p9sk1 c.client (choosing (ClientSecond c.list c.place)) get ≡ goes (within (ClientSecond c.list c.place) (said c) []) (begins c.client (said c)) (text_with_nul (said c))
chooses c may = ap (λ (consents : Bool). if consents then goes (choosing (ClientThird c.list c.place)) g.Ok (text_with_nul (said c)) else entered p9sk1 c.client (ClientSecond c.list c.place) (said c) (text_with_nul (said c))) may.plain

client_3 : (c : Choice) → MayChoose c → Passes c.client (client_picks c) get (within (ClientSecond c.list c.place) (said c) []) (begins c.client (said c)) (text_with_nul (said c))
client_3 c may = passes_by c.client (client_picks c) get (choosing (ClientSecond c.list c.place)) (within (ClientSecond c.list c.place) (said c) []) (begins c.client (said c)) (text_with_nul (said c)) (client_2 c may).course (chooses c may)

-- ---- the server is told the choice

told : (c : Choice) → MayChoose c → (b : List ℕ) → b ≡ text_with_nul (said c) → move p9sk1 c.server (choosing (ServerSecond c.list)) (give b) ≡ goes (within (ServerSecond c.list) (said c) []) (begins c.server (said c)) []
told c may b is =
    let offer = is_offer c may in
    ap (choice_came name (entered p9sk1 c.server) c.list) is
    ∙ ap (λ text. with_text text (λ text. tested ((not (is_offered name c.list text), NotOffered) ∷ []) (entered p9sk1 c.server (ServerSecond c.list) text []))) (text_is_read (said c) (choice_is_clean (dom_of c) offer.is_dom) (choice_is_short (dom_of c) offer.is_dom))
    ∙ untested (not (is_offered name c.list (said c))) (entered p9sk1 c.server (ServerSecond c.list) (said c) []) NotOffered (ap not (choice_is_offered c.list (dom_of c) offer))

server_3 : (c : Choice) → MayChoose c → Passes c.server (get ∷ server_offers c) (give (puts_after p9sk1 c.client (client_picks c) get)) (within (ServerSecond c.list) (said c) []) (begins c.server (said c)) []
server_3 c may = passes_by c.server (get ∷ server_offers c) (give (puts_after p9sk1 c.client (client_picks c) get)) (choosing (ServerSecond c.list)) (within (ServerSecond c.list) (said c) []) (begins c.server (said c)) [] (server_2 c may).course (told c may _ (client_3 c may).puts)

-- ---- both are led to p9sk1

client_led : (c : Choice) (l : Login) → MayChoose c → IsChosen c l → Leads c.client (client_chosen c) l.client
client_led c l may is = record { stage = ClientSecond c.list c.place; text = said c; course = (client_3 c may).course; chosen = sym is.client }

server_led : (c : Choice) (l : Login) → MayChoose c → IsChosen c l → Leads c.server (server_chosen c) l.server
server_led c l may is = record { stage = ServerSecond c.list; text = said c; course = (server_3 c may).course; chosen = sym is.server }

waits_well : (needs : Bool) → IsWell (if needs then g.Wait else g.Ok)
waits_well true = tt
waits_well false = tt

client_well : (c : Choice) → MayChoose c → AllWell (answer_after p9sk1 c.client) (client_chosen c)
client_well c may = (well_of (client_3 c may) (waits_well (needs_any (sk.need_after (chosen_start p9sk1 c.client (said c)) []))), (well_of (client_2 c may) tt, (well_of (client_1 c may) tt, tt)))

server_well : (c : Choice) → MayChoose c → AllWell (answer_after p9sk1 c.server) (server_chosen c)
server_well c may = (well_of (server_3 c may) (waits_well (needs_any (sk.need_after (chosen_start p9sk1 c.server (said c)) []))), (well_of (server_2 c may) tt, (well_of (server_1 c may) tt, keys_well c may c.keys)))

-- ---- what both meet from there on

-- both are led so
pub record Led (c : Choice) (l : Login) : Type 0 where
  pub client : Leads c.client (client_chosen c) l.client
  pub server : Leads c.server (server_chosen c) l.server

led : (c : Choice) (l : Login) → MayChoose c → IsChosen c l → Led c l
led c l may is = record { client = client_led c l may is; server = server_led c l may is }

greeted : (c : Choice) (l : Login) → Led c l → server_greeted (chosen c) l ≡ server_greeted (alone l) l ++ server_chosen c
greeted c l led = ap (λ m. give m ∷ found l.server_key l.server_password ∷ server_chosen c) (call_within c.client (client_chosen c) l.client led.client [] tt get tt).1

asked : (c : Choice) (l : Login) → Led c l → client_asked (chosen c) l ≡ client_asked (alone l) l ++ client_chosen c
asked c l led =
    ap (λ m. found l.client_key l.client_password ∷ give m ∷ get ∷ client_chosen c)
    (ap (λ talk. puts_after p9sk1 c.server talk get) (greeted c l led) ∙ (call_within c.server (server_chosen c) l.server led.server (server_greeted (alone l) l) (tt, (tt, tt)) get tt).1)

granted : (c : Choice) (l : Login) → Led c l → grant_of (chosen c) l ≡ grant_of (alone l) l
granted c l led =
    ap (λ need. answer l.known l.before (asked_so (question_in need) l.words))
    (ap (λ talk. (chosen c).client.needs talk) (asked c l led) ∙ need_within c.client (client_chosen c) l.client led.client (client_asked (alone l) l) (tt, (tt, (tt, tt))))

heard_there : (c : Choice) (l : Login) → Led c l → client_heard (chosen c) l ≡ client_heard (alone l) l ++ client_chosen c
heard_there c l led = ap (λ a. heard a ∷ client_asked (chosen c) l) (granted c l led) ∙ ap (λ talk. heard (grant_of (alone l) l) ∷ talk) (asked c l led)

shown : (c : Choice) (l : Login) → Led c l → server_shown (chosen c) l ≡ server_shown (alone l) l ++ server_chosen c
shown c l led =
    ap (λ m. give m ∷ get ∷ server_greeted (chosen c) l)
    (ap (λ talk. puts_after p9sk1 c.client talk get) (heard_there c l led) ∙ (call_within c.client (client_chosen c) l.client led.client (client_heard (alone l) l) (tt, (tt, (tt, (tt, tt)))) get tt).1)
    ∙ ap (λ talk. give ((alone l).client.puts (client_heard (alone l) l) get) ∷ get ∷ talk) (greeted c l led)

servers : (c : Choice) (l : Login) → Led c l → server_talk (chosen c) l ≡ server_talk (alone l) l ++ server_chosen c
servers c l led = ap (λ talk. get ∷ talk) (shown c l led)

clients : (c : Choice) (l : Login) → Led c l → client_talk (chosen c) l ≡ client_talk (alone l) l ++ client_chosen c
clients c l led =
    ap (λ m. give m ∷ get ∷ client_heard (chosen c) l)
    (ap (λ talk. puts_after p9sk1 c.server talk get) (shown c l led) ∙ (call_within c.server (server_chosen c) l.server led.server (server_shown (alone l) l) (tt, (tt, (tt, (tt, tt)))) get tt).1)
    ∙ ap (λ talk. give ((alone l).server.puts (server_shown (alone l) l) get) ∷ get ∷ talk) (heard_there c l led)

-- ---- the whole

six : (l : Login) → AllInner (client_talk (alone l) l)
six l = (tt, (tt, (tt, (tt, (tt, (tt, tt))))))

five : (l : Login) → AllInner (server_talk (alone l) l)
five l = (tt, (tt, (tt, (tt, (tt, tt)))))

pub choice_ends : (c : Choice) (l : Login) → MayChoose c → IsChosen c l → MayLogIn l → LogsIn (chosen c) l
choice_ends c l may is in_there =
    let led = led c l may is in
    let whole = login_ends l in_there in
    let ours = clients c l led in
    let theirs = servers c l led in
    record {
      client_well = subst (AllWell (answer_after p9sk1 c.client)) (sym ours) (well_within c.client (client_chosen c) l.client led.client (client_well c may) (client_talk (alone l) l) (six l) whole.client_well);
      server_well = subst (AllWell (answer_after p9sk1 c.server)) (sym theirs) (well_within c.server (server_chosen c) l.server led.server (server_well c may) (server_talk (alone l) l) (five l) whole.server_well);
      client_accepts = ap (chosen c).client.ends ours ∙ outcome_within c.client (client_chosen c) l.client led.client (client_talk (alone l) l) (six l) ∙ whole.client_accepts;
      server_accepts = ap (chosen c).server.ends theirs ∙ outcome_within c.server (server_chosen c) l.server led.server (server_talk (alone l) l) (five l) ∙ whole.server_accepts;
      client_ends = ap (chosen c).client.ended ours ∙ ended_within c.client (client_chosen c) l.client led.client (client_talk (alone l) l) (six l) ∙ whole.client_ends;
      server_ends = ap (chosen c).server.ended theirs ∙ ended_within c.server (server_chosen c) l.server led.server (server_talk (alone l) l) (five l) ∙ whole.server_ends;
    }
