-- The responses stay sound, and are a model. `push` rests on it.
use Rattle.std.proofs.Common.{◌≡◌, ℕ, zero, suc, Bool, false, List, [], ◌∷◌, ◌++◌, map, take, refl, arith, rules}
use Rattle.std.specs.List.{IsDistinct, AllByRecursion, list_any}
use Rattle.std.proofs.lemmas.List.{take-map, length-map, length-append, length-take, map-append}
use Rattle.std.proofs.lemmas.Bool.{or_parts}
use Rattle.std.proofs.lemmas.Bool.Decides.{nat_tests}
use Rattle.std.specs.declared.net.socket_addr.SocketAddr.{SocketAddr}
use Rattle.recovery_paths.specs.declared.responses.PathResponse.{PathResponse}
use Rattle.recovery_paths.specs.Responses.{AreSoundResponses, goes_to, remotes, renewed, same_address, with_response}

-- the front of a list whose elements have a property
all_take : {X : Type 0} (P : X → Type 0) (n : ℕ) (xs : List X) → AllByRecursion P xs → AllByRecursion P (take n xs)
all_take P zero xs all = search rules
all_take P (suc n) [] all = all
all_take P (suc n) (x ∷ xs) all = (all.0, all_take P n xs all.1)

distinct_take : {K : Type 0} (e : K → K → Bool) (n : ℕ) (ks : List K) → IsDistinct e ks → IsDistinct e (take n ks)
unfolding IsDistinct
distinct_take e zero ks apart = search rules
distinct_take e (suc n) [] apart = apart
distinct_take e (suc n) (k ∷ ks) apart = (all_take (λ y. e k y ≡ false) n ks apart.0, distinct_take e n ks apart.1)

pub none_sound : AreSoundResponses []
unfolding IsDistinct
none_sound = record { few = omega arith; apart = search rules }

-- the first n of sound responses
pub take_sound : (n : ℕ) (responses : List PathResponse) → AreSoundResponses responses
    → AreSoundResponses (take n responses)
take_sound n responses sound = record {
  few = omega (arith, length-take n responses, sound.few);
  apart = rw (← take-map (λ (response : PathResponse). response.remote) n responses)
      (distinct_take same_address n (remotes responses) sound.apart);
}

all_push : {X : Type 0} (P : X → Type 0) (xs : List X) (x : X) → AllByRecursion P xs → P x
    → AllByRecursion P (xs ++ x ∷ [])
all_push P [] x all last = search rules
all_push P (y ∷ xs) x all last = (all.0, all_push P xs x all.1 last)

-- one more key, which equals none of the others
distinct_push : {K : Type 0} (e : K → K → Bool) (ks : List K) (k : K) → IsDistinct e ks
    → list_any (λ x. e x k) ks ≡ false → IsDistinct e (ks ++ k ∷ [])
unfolding IsDistinct
distinct_push e [] k apart none = search rules
distinct_push e (x ∷ ks) k apart none =
    let neither = or_parts (e x k) (list_any (λ y. e y k) ks) none in
    (all_push (λ y. e x y ≡ false) ks k apart.0 neither.0, distinct_push e ks k apart.1 neither.1)

any_remote : (remote : SocketAddr) (responses : List PathResponse)
    → list_any (λ x. same_address x remote) (remotes responses) ≡ list_any (goes_to remote) responses
any_remote remote [] = refl
any_remote remote (response ∷ others) = grind (arith, any_remote remote others)

-- responses have the same addresses
remotes_renewed : (new : PathResponse) (responses : List PathResponse)
    → remotes (map (renewed new) responses) ≡ remotes responses
remotes_renewed new [] = refl
remotes_renewed new (kept ∷ others) = grind (arith, remotes_renewed new others)

pub with_response_sound : (new : PathResponse) (responses : List PathResponse) → AreSoundResponses responses
    → AreSoundResponses (with_response new responses)
with_response_sound new responses sound = grind (
  arith,
  nat_tests,
  sound,
  length-map responses (renewed new),
  remotes_renewed new responses,
  length-append responses (new ∷ []),
  map-append (λ (response : PathResponse). response.remote) responses (new ∷ []),
  any_remote new.remote responses,
  distinct_push same_address (remotes responses) new.remote sound.apart,
)
