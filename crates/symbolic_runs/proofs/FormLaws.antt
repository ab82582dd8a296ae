-- The forms of messages determine their parts.
use Rattle.std.proofs.Common.{◌≡◌, ℕ, List, ◌++◌, [], ◌∷◌, refl}
use Rattle.symbolic_runs.specs.Trees.{Tree, seal, long_key, ticket_key, password, digest}
use Rattle.symbolic_runs.specs.declared.kind.MacKind.{MacKind}
use Rattle.symbolic_runs.specs.Forms.{Fields, pair, request, ticket, authenticator, tickets, client_message, server_message, vouch, mail_challenge}

pub seal_parts : (k k' t t' : Tree) → seal k t ≡ seal k' t' → (k ≡ k') × (t ≡ t')
seal_parts k k' t t' e = (cc, cc)

pub digest_parts : (kind kind' : MacKind) (p p' t t' : Tree) → digest kind p t ≡ digest kind' p' t' → (kind ≡ kind') × (p ≡ p') × (t ≡ t')
digest_parts kind kind' p p' t t' e = (cc, cc, cc)

pub long_key_name : (a b : List ℕ) → long_key a ≡ long_key b → a ≡ b
long_key_name a b e = cc

pub password_name : (a b : List ℕ) → password a ≡ password b → a ≡ b
password_name a b e = cc

pub ticket_key_number : (a b : ℕ) → ticket_key a ≡ ticket_key b → a ≡ b
ticket_key_number a b e = cc

pub ticket_parts : (n n' : List ℕ) (x x' : Tree) (c c' u u' : List ℕ) (k k' : Tree) → ticket n x c u k ≡ ticket n' x' c' u' k' → (n ≡ n') × (x ≡ x') × (c ≡ c') × (u ≡ u') × (k ≡ k')
ticket_parts n n' x x' c c' u u' k k' e = (cc, cc, cc, cc, cc)

pub authenticator_parts : (n n' : List ℕ) (x x' : Tree) → authenticator n x ≡ authenticator n' x' → (n ≡ n') × (x ≡ x')
authenticator_parts n n' x x' e = (cc, cc)

pub ticket_is_no_authenticator : (n m : List ℕ) (x y : Tree) (c u : List ℕ) (k : Tree) → ticket n x c u k ≡ authenticator m y → ⊥
ticket_is_no_authenticator n m x y c u k e = absurd (cc)

fields_path : (f g : Fields) → f.authid ≡ g.authid → f.authdom ≡ g.authdom → f.hostid ≡ g.hostid → f.uid ≡ g.uid → f ≡ g
fields_path f g p q r t = λ i. record { authid = p i; authdom = q i; hostid = r i; uid = t i }

pub request_parts : (k k' : List ℕ) (f f' : Fields) (x x' : Tree) → request k f x ≡ request k' f' x' → (k ≡ k') × (f ≡ f') × (x ≡ x')
request_parts k k' f f' x x' e = (cc, fields_path f f' (cc) (cc) (cc) (cc), cc)

pub pair_parts : (a a' b b' : Tree) → pair a b ≡ pair a' b' → (a ≡ a') × (b ≡ b')
pair_parts a a' b b' e = (cc, cc)

pub tickets_parts : (a a' b b' : Tree) → tickets a b ≡ tickets a' b' → (a ≡ a') × (b ≡ b')
tickets_parts a a' b b' e = (cc, cc)

pub vouch_parts : (a a' b b' : Tree) → vouch a b ≡ vouch a' b' → (a ≡ a') × (b ≡ b')
vouch_parts a a' b b' e = (cc, cc)

pub client_message_parts : (h h' k k' x x' : Tree) → client_message h k x ≡ client_message h' k' x' → (h ≡ h') × (k ≡ k') × (x ≡ x')
client_message_parts h h' k k' x x' e = (cc, cc, cc)

pub server_message_parts : (k k' x x' : Tree) → server_message k x ≡ server_message k' x' → (k ≡ k') × (x ≡ x')
server_message_parts k k' x x' e = (cc, cc)

-- one more byte behind a text
no_room : (xs : List ℕ) (b : ℕ) → [] ≡ xs ++ b ∷ [] → ⊥
no_room [] b e = absurd (cc)
no_room (x ∷ xs) b e = absurd (cc)

last_byte : (xs ys : List ℕ) (b : ℕ) → xs ++ b ∷ [] ≡ ys ++ b ∷ [] → xs ≡ ys
last_byte [] [] b e = refl
last_byte [] (y ∷ ys) b e = absurd (no_room ys b (let rest : [] ≡ ys ++ b ∷ [] = cc in rest))
last_byte (x ∷ xs) [] b e = absurd (no_room xs b (let rest : [] ≡ xs ++ b ∷ [] = cc in rest))
last_byte (x ∷ xs) (y ∷ ys) b e = let rest : xs ++ b ∷ [] ≡ ys ++ b ∷ [] = cc in let first : x ≡ y = cc in let more = last_byte xs ys b rest in cc

challenge_text : (n n' : ℕ) (d d' : List ℕ) → mail_challenge d n ≡ mail_challenge d' n' → (d ++ 62 ∷ [] ≡ d' ++ 62 ∷ []) × (n ≡ n')
challenge_text n n' d d' e = (cc, cc)

pub mail_challenge_parts : (d d' : List ℕ) (n n' : ℕ) → mail_challenge d n ≡ mail_challenge d' n' → (d ≡ d') × (n ≡ n')
mail_challenge_parts d d' n n' e = let texts = challenge_text n n' d d' e in (last_byte d d' 62 texts.0, texts.1)
