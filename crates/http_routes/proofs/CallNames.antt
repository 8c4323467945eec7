-- The names in a request that a head makes are of the form.
use Rattle.std.proofs.Common.{◌≡◌, ℕ, ◌&&◌, List, [], ◌∷◌, Option, Some, None, Result, Ok, Err, sym, subst}
use Rattle.std.specs.Prelude.{codes, IsTrue, IfSome, IfOk}
use Rattle.std.proofs.lemmas.Bool.{and_parts}
use Rattle.keep_core.specs.Names.{is_name}
use Rattle.http_routes.specs.declared.fault.RequestFault.{RequestFault}
use Rattle.http_messages.specs.declared.head.Field.{Field}
use Rattle.http_messages.specs.declared.head.Head.{Head}
use Rattle.http_messages.specs.Framing.{only_named}
use Rattle.http_routes.specs.declared.place.Resource.{Resource}
use Rattle.http_routes.specs.declared.place.Resource.TheVariants.{Memberships, Site, SiteReport, SiteEarl, SiteCsv, Import, Languages, Members, Member, Page, PageReport, PageEarl, PageNames, PageVerdicts, Edits, Judgements, Outcomes}
use Rattle.http_routes.specs.declared.names.Names.{Names}
use Rattle.http_routes.specs.declared.names.Names.TheVariants.{Zero, One, Two}
use Rattle.http_routes.specs.declared.call.Method.{Method}
use Rattle.http_routes.specs.declared.call.Method.TheVariants.{Get, Put, Post, Delete}
use Rattle.http_routes.specs.declared.call.Route.{Route}
use Rattle.http_routes.specs.declared.call.Call.{Call}
use Rattle.segment_routes.specs.Paths.{path}
use Rattle.http_routes.specs.Places.{names_of, with_names, with_parts, row_of, place_of}
use Rattle.http_routes.specs.Calls.{method_of, route_of, named, caller_of, called, with_route, with_method, with_place, call_of}
use Rattle.http_routes.specs.Named.{HasNames, IsNamed}
use Rattle.http_routes.proofs.Chosen.{when}

-- names of the form
abbrev AreNames : Names → Type 0
AreNames Zero = Unit {0}
AreNames (One site) = IsTrue (is_name site)
AreNames (Two site other) = IsTrue (is_name site) × IsTrue (is_name other)

abbrev Placed : Resource × Names → Type 0
Placed named = AreNames named.1

names_in : (parts : List (List ℕ × List ℕ)) → IfSome (names_of parts) AreNames
names_in [] = tt
names_in (site ∷ []) = when (is_name site.1) (Some (One site.1)) AreNames (λ is. is)
names_in (site ∷ other ∷ rest) =
    when (is_name site.1 && is_name other.1) (Some (Two site.1 other.1)) AreNames (λ both. and_parts (is_name site.1) (is_name other.1) both)

names_of_place : (target : List ℕ) → IfSome (place_of target) Placed
unfolding place_of
names_of_place target = of (row_of (path target))
  where
    with : (place : Resource) (names : Option Names) → IfSome names AreNames → IfSome (with_names place names) Placed
    with place None are = tt
    with place (Some names) are = are

    of : (row : Option (Resource × List (List ℕ × List ℕ))) → IfSome (with_parts row) Placed
    of None = tt
    of (Some (place, parts)) = with place (names_of parts) (names_in parts)

names_of_route : (p : Resource) (n : Names) (m : Method) → AreNames n → IfSome (route_of p n m) HasNames
names_of_route Site (One site) Put are = are
names_of_route Import (One site) Post are = are
names_of_route Languages (One site) Put are = are
names_of_route Member (Two site user) Put are = are
names_of_route Page (Two site page) Put are = are
names_of_route Page (Two site page) Get are = are
names_of_route Page (Two site page) Delete are = are
names_of_route Edits (Two site page) Post are = are
names_of_route Judgements (Two site page) Post are = are
names_of_route Outcomes (Two site page) Get are = are
names_of_route PageReport (Two site page) Get are = are
names_of_route PageEarl (Two site page) Get are = are
names_of_route PageEarl (Two site page) Post are = are
names_of_route PageNames (Two site page) Get are = are
names_of_route SiteReport (One site) Get are = are
names_of_route SiteEarl (One site) Get are = are
names_of_route SiteCsv (One site) Get are = are
names_of_route PageVerdicts (Two site page) Get are = are
names_of_route Members (One site) Get are = are
names_of_route Memberships Zero Get are = are
names_of_route _ _ _ are = tt

name_of_field : (f : Option Field) → IfSome (named f) (λ caller. IsTrue (is_name caller))
name_of_field None = tt
name_of_field (Some f) = when (is_name f.value) (Some f.value) (λ caller. IsTrue (is_name caller)) (λ is. is)

names_called : (r : Route) (caller : Option (List ℕ)) → HasNames r → IfSome caller (λ c. IsTrue (is_name c)) → IfOk (called r caller) IsNamed
names_called r None names is = tt
names_called r (Some caller) names is = record { route = names; caller = is }

names_with_route : (h : Head) (r : Option Route) → IfSome r HasNames → IfOk (with_route h r) IsNamed
names_with_route h None names = tt
names_with_route h (Some r) names = names_called r (caller_of h) names (name_of_field (only_named (codes "x-caller") h))

names_with_method : (h : Head) (p : Resource) (n : Names) (m : Option Method) → AreNames n → IfOk (with_method h p n m) IsNamed
names_with_method h p n None names = tt
names_with_method h p n (Some m) names = names_with_route h (route_of p n m) (names_of_route p n m names)

names_with_place : (h : Head) (p : Option (Resource × Names)) → IfSome p Placed → IfOk (with_place h p) IsNamed
names_with_place h None names = tt
names_with_place h (Some (p, n)) names = names_with_method h p n (method_of h.method) names

pub names_of_call : (h : Head) → IfOk (call_of h) IsNamed
unfolding call_of
names_of_call h = names_with_place h (place_of h.target) (names_of_place h.target)

pub names_of_answer : {E : Type 0} (h : Head) (r : Result (Result Call RequestFault) E) → IfOk r (λ call. call ≡ call_of h) → IfOk r (λ call. IfOk call IsNamed)
names_of_answer h (Ok call) exact = subst (λ c. IfOk c IsNamed) (sym exact) (names_of_call h)
names_of_answer h (Err e) exact = tt
