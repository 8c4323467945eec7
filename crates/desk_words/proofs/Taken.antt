-- A parse without a fault took its words: where `fault_of` of `clap` is empty, `takes` holds. Each step of
-- the one is laid beside the same step of the other.
use Rattle.std.proofs.Common.{◌≡◌, ◌∙◌, ◌+◌, ◌&&◌, ◌||◌, ◌⊎◌, ℕ, zero, suc, not, cond, Bool, true, false, inl, inr, refl, sym, arith, List, [], ◌∷◌, length, min, nat_le, nat_lt, ◌==◌, Option, Some, None, is_some}
use Rattle.std.specs.Prelude.{drop, slice_get, encode_utf8, codes}
use Rattle.std.specs.List.{list_all, list_any}
use Rattle.std.specs.Option.{option_map_or}
use Rattle.std.specs.Str.{bytes_eq, chars}
use Rattle.std.proofs.lemmas.Bool.{and_from, or_parts}
use Rattle.std.proofs.lemmas.Bool.Decides.{nat_tests}
use Rattle.clap.specs.Lexer.{long_of, short_of}
use Rattle.clap.specs.Values.{refused_kind}
use Rattle.clap.specs.ValueTests.{accepts}
use Rattle.clap.specs.Matches.{count_text}
use Rattle.clap.specs.Facts.{explicit_source, parser_of_value, unwrap_or_range}
use Rattle.clap.specs.Walk.{Held, Names, Row, Rule, Step, Text, Walk, next, trailing, subcommand, value, action_of, arg_by_id, arg_by_index, arg_by_long, arg_by_short, attached_value, count_of, finished, has_row, is_pending, most_values, nothing_held, reacted, settled, subcommand_met, takes_several, takes_values, values_or_missing, walk, walk_from, walked, word_met}
use Rattle.clap.specs.Simple.{App, Shape, argument_words, built, is_simple}
use Rattle.clap.specs.Kinds.{Kinds, or_else, range_kinds, value_kinds}
use Rattle.clap.specs.Takes.{action_passes, bundle_step_passes, count_passes, default_passes, flag_word_passes, flags_pass, is_given, is_valid, level_passes, long_passes, option_passes, other_passes, positional_passes, react_passes, set_passes, settle_passes, short_passes, step_passes, takes, turn_passes, use_passes, values_pass, walk_passes}
use Rattle.clap.specs.Faults.{action_fault, bundle_step_fault, check_fault, count_fault, fault_of, flag_word_fault, flags_fault, level_fault, long_fault, option_fault, other_fault, positional_fault, react_fault, repeat_fault, set_fault, settle_fault, short_fault, step_fault, stray_fault, turn_fault, use_fault, values_fault, walk_fault, word_fault}
use Rattle.clap.specs.declared.builder.action.ArgAction.{ArgAction}
use Rattle.clap.specs.declared.builder.action.ArgAction.TheVariants as action
use Rattle.clap.specs.declared.builder.value_parser.ValueParser.{ValueParser}
use Rattle.clap.specs.declared.error.kind.ErrorKind.{ErrorKind}
use Rattle.clap.proofs.TakesLemmas.{leaf_takes}
use Rattle.clap.proofs.FaultLemmas.{leaf_fault}

-- ---- lists of kinds that are empty

some_kind : (k : ErrorKind) (ks : Kinds) → k ∷ ks ≡ [] → ⊥
some_kind k ks e = cc

neither : (a b : Kinds) → or_else a b ≡ [] → (a ≡ []) × (b ≡ [])
neither [] b e = (refl, e)
neither (k ∷ ks) b e = absurd (some_kind k ks e)

not_so : (b : Bool) (k : ErrorKind) (ks : Kinds) → cond b (k ∷ ks) [] ≡ [] → b ≡ false
not_so true k ks e = absurd (some_kind k ks e)
not_so false k ks e = refl

is_so : (b : Bool) (k : ErrorKind) (ks : Kinds) → cond b [] (k ∷ ks) ≡ [] → b ≡ true
is_so true k ks e = refl
is_so false k ks e = absurd (some_kind k ks e)

-- only the one that wants this
unless_other : (a b : Bool) (k : ErrorKind) (ks : Kinds) → cond (a && not b) (k ∷ ks) [] ≡ [] → (not a || b) ≡ true
unless_other true true k ks e = refl
unless_other true false k ks e = absurd (some_kind k ks e)
unless_other false b k ks e = refl

either_way : (b : Bool) (f g : Kinds) (p q : Bool) → (f ≡ [] → p ≡ true) → (g ≡ [] → q ≡ true) → cond b f g ≡ [] → cond b p q ≡ true
either_way true f g p q l r e = l e
either_way false f g p q l r e = r e

or_so : (b : Bool) (f : Kinds) (p : Bool) → (f ≡ [] → p ≡ true) → cond b [] f ≡ [] → (b || p) ≡ true
or_so true f p r e = refl
or_so false f p r e = r e

and_not : (b : Bool) (k : ErrorKind) (ks f : Kinds) (p : Bool) → (f ≡ [] → p ≡ true) → cond b (k ∷ ks) f ≡ [] → (not b && p) ≡ true
and_not true k ks f p r e = absurd (some_kind k ks e)
and_not false k ks f p r e = r e

-- ---- one use of an argument

value_taken : (i : Bool) (p : ValueParser) (t : Text) → value_kinds i p t ≡ [] → accepts i p t ≡ true
value_taken i p t e = is_so (accepts i p t) (refused_kind p) [] e

values_taken : (a : Rule) (vs : List Text) → values_fault a vs ≡ [] → values_pass a vs ≡ true
values_taken a [] e = refl
values_taken a (v ∷ vs) e = let p = neither _ _ e in and_from _ _ (value_taken _ _ v p.0) (values_taken a vs p.1)

count_taken : (a : Rule) (vs : List Text) (rows : List Row) → count_fault a vs rows ≡ [] → count_passes a vs rows ≡ true
count_taken a [] rows e = value_taken a.ignore_case (parser_of_value a.parser) (count_text (min (count_of a.id rows + 1) 255)) e
count_taken a (v ∷ vs) rows e = values_taken a (v ∷ vs) e

set_taken : (again : Bool) (a : Rule) (vs : List Text) (rows : List Row) → set_fault again a vs rows ≡ [] → set_passes again a vs rows ≡ true
set_taken again a vs rows e =
    let p = neither (repeat_fault again a.id rows) _ e in
    and_from _ _ (unless_other (has_row a.id rows) again _ _ p.0) (values_taken a vs p.1)

action_taken : (x : ArgAction) (again : Bool) (a : Rule) (vs : List Text) (rows : List Row) → action_fault x again a vs rows ≡ [] → action_passes x again a vs rows ≡ true
action_taken action.Set again a vs rows e = set_taken again a vs rows e
action_taken action.SetTrue again a vs rows e = set_taken again a vs rows e
action_taken action.SetFalse again a vs rows e = set_taken again a vs rows e
action_taken action.Append again a vs rows e = values_taken a vs e
action_taken action.Count again a vs rows e = count_taken a vs rows e
action_taken action.Help again a vs rows e = absurd (some_kind _ _ e)
action_taken action.HelpShort again a vs rows e = absurd (some_kind _ _ e)
action_taken action.HelpLong again a vs rows e = absurd (some_kind _ _ e)
action_taken action.Version again a vs rows e = absurd (some_kind _ _ e)

ranged : (a b c d f : Bool) (k l m n : ErrorKind) → cond a (k ∷ []) (cond b (cond c [] (l ∷ [])) (cond d (m ∷ []) (cond f (n ∷ []) []))) ≡ []
    → ((b ≡ true) × (c ≡ true)) ⊎ ((d ≡ false) × (f ≡ false))
ranged true b c d f k l m n e = absurd (some_kind _ _ e)
ranged false true c d f k l m n e = inl (refl, is_so c l [] e)
ranged false false c true f k l m n e = absurd (some_kind _ _ e)
ranged false false c false f k l m n e = inr (refl, not_so f n [] e)

in_range : (least most n : ℕ) → ((least == most) ≡ true) × ((least == n) ≡ true) ⊎ ((nat_lt n least ≡ false) × (nat_lt most n ≡ false)) → (nat_le least n && nat_le n most) ≡ true
in_range least most n (inl p) = grind (arith, nat_tests, p.0, p.1)
in_range least most n (inr p) = grind (arith, nat_tests, p.0, p.1)

use_taken : (again : Bool) (a : Rule) (vs : List Text) (rows : List Row) → use_fault again a vs rows ≡ [] → use_passes again a vs rows ≡ true
use_taken again a vs rows e =
    let least = (unwrap_or_range a.range).start_inclusive in
    let p = neither (range_kinds least (most_values a) (length vs)) _ e in
    let within = in_range least (most_values a) (length vs) (ranged _ _ _ _ _ _ _ _ _ p.0) in
    joined (nat_le least (length vs)) (nat_le (length vs) (most_values a)) _ within (action_taken (action_of a) again a (values_or_missing a vs) rows p.1)
  where
    joined : (x y z : Bool) → (x && y) ≡ true → z ≡ true → (x && (y && z)) ≡ true
    joined true true z h e = e
    joined true false z h e = h
    joined false y z h e = h

-- ---- the walk

settle_taken : (c : List Rule) (again : Bool) (h : Held) → settle_fault c again h ≡ [] → settle_passes c again h ≡ true
settle_taken c again h e = settle h.pending e
  where
    used : (vs : List Text) (o : Option Rule) → option_map_or (λ a. use_fault again a vs h.rows) o [] ≡ [] → option_map_or (λ a. use_passes again a vs h.rows) o true ≡ true
    used vs None e = refl
    used vs (Some a) e = use_taken again a vs h.rows e

    settle : (o : Option (Text × List Text)) → option_map_or (λ p. option_map_or (λ a. use_fault again a p.1 h.rows) (arg_by_id c p.0) []) o [] ≡ []
        → option_map_or (λ p. option_map_or (λ a. use_passes again a p.1 h.rows) (arg_by_id c p.0) true) o true ≡ true
    settle None e = refl
    settle (Some p) e = used p.1 (arg_by_id c p.0) e

react_taken : (c : List Rule) (again : Bool) (a : Rule) (vs : List Text) (h : Held) → react_fault c again a vs h ≡ [] → react_passes c again a vs h ≡ true
react_taken c again a vs h e = let p = neither (settle_fault c again h) _ e in and_from _ _ (settle_taken c again h p.0) (use_taken again a vs (settled c h).rows p.1)

option_taken : (c : List Rule) (again : Bool) (a : Rule) (v : Option Text) (h : Held) → option_fault c again a v h ≡ [] → option_passes c again a v h ≡ true
option_taken c again a (Some v) h e = react_taken c again a (v ∷ []) h e
option_taken c again a None h e = settle_taken c again h e

long_taken : (c : List Rule) (again : Bool) (o : Option Rule) (v : Option Text) (h : Held) → long_fault c again o v h ≡ [] → long_passes c again o v h ≡ true
long_taken c again None v h e = absurd (some_kind _ _ e)
long_taken c again (Some a) v h e =
    either_way (takes_values a) _ _ _ _ (λ f. option_taken c again a v h f) (λ f. and_not (is_some v) _ _ _ _ (λ g. react_taken c again a [] h g) f) e

short_taken : (c : List Rule) (again : Bool) (o : Option Rule) (rest : Text) (h : Held) (fault : Held → Kinds) (pass : Held → Bool) → ((k : Held) → fault k ≡ [] → pass k ≡ true)
    → short_fault c again o rest h fault ≡ [] → short_passes c again o rest h pass ≡ true
short_taken c again None rest h fault pass each e = absurd (some_kind _ _ e)
short_taken c again (Some a) rest h fault pass each e =
    either_way (takes_values a) _ _ _ _ (λ f. option_taken c again a (attached_value rest) h f)
    (λ f. let p = neither (react_fault c again a [] h) _ f in and_from _ _ (react_taken c again a [] h p.0) (each (reacted c a [] h) p.1)) e

bundle_step_taken : (c : List Rule) (again : Bool) (o : Option ℕ) (flags : Text) (skip : ℕ) (h : Held) (fault : Text → ℕ → Held → Kinds) (pass : Text → ℕ → Held → Bool)
    → ((t : Text) (n : ℕ) (k : Held) → fault t n k ≡ [] → pass t n k ≡ true) → bundle_step_fault c again o flags skip h fault ≡ [] → bundle_step_passes c again o flags skip h pass ≡ true
bundle_step_taken c again None flags skip h fault pass each e = refl
bundle_step_taken c again (Some x) flags zero h fault pass each e =
    let rest = drop (length (encode_utf8 x)) flags in
    short_taken c again (arg_by_short c x) rest h (fault rest 0) (pass rest 0) (λ k f. each rest 0 k f) e
bundle_step_taken c again (Some x) flags (suc skip) h fault pass each e = each (drop (length (encode_utf8 x)) flags) skip h e

flags_taken : (c : List Rule) (again : Bool) (k : ℕ) (flags : Text) (skip : ℕ) (h : Held) → flags_fault c again k flags skip h ≡ [] → flags_pass c again k flags skip h ≡ true
unfolding flags_fault flags_pass
flags_taken c again zero flags skip h e = refl
flags_taken c again (suc k) flags skip h e =
    bundle_step_taken c again (slice_get (chars flags) 0) flags skip h (flags_fault c again k) (flags_pass c again k) (λ t n g f. flags_taken c again k t n g f) e

flag_word_taken : (c : List Rule) (again : Bool) (o : Option (Text × Option Text)) (word : Text) (h : Held) → flag_word_fault c again o word h ≡ [] → flag_word_passes c again o word h ≡ true
flag_word_taken c again (Some p) word h e = long_taken c again (arg_by_long c p.0) p.1 h e
flag_word_taken c again None word h e = bundle (short_of word) e
  where
    bundle : (o : Option Text) → option_map_or (λ flags. flags_fault c again (length flags) flags h.skip (record h { skip = 0 })) o [] ≡ []
        → option_map_or (λ flags. flags_pass c again (length flags) flags h.skip (record h { skip = 0 })) o true ≡ true
    bundle None e = refl
    bundle (Some flags) e = flags_taken c again (length flags) flags h.skip (record h { skip = 0 }) e

other_taken : (s : Shape) (o : Option Text) (word : Text) (h : Held) → other_fault s o word h ≡ [] → other_passes s o word h ≡ true
other_taken s (Some name) word h e = unless_other (bytes_eq name (codes "help")) s.disable_help_subcommand _ _ e
other_taken s None word h e = or_so (bytes_eq word (45 ∷ 45 ∷ [])) _ _ (λ f. flag_word_taken s.rules s.args_override_self (long_of word) word h f) e

step_taken : (s : Shape) (position : ℕ) (h : Held) (step : Step) → step_fault s position h step ≡ [] → step_passes s position h step ≡ true
step_taken s position h (next w) e = refl
step_taken s position h (trailing p) e = refl
step_taken s position h (subcommand name) e = refl
step_taken s position h value e = to_positional (arg_by_index s.rules position) e
  where
    stray : (b : Bool) (k l m : ErrorKind) → cond b (k ∷ []) (l ∷ m ∷ []) ≡ [] → ⊥
    stray true k l m e = some_kind _ _ e
    stray false k l m e = some_kind _ _ e

    to_positional : (o : Option Rule) → option_map_or (λ a. positional_fault s.rules s.args_override_self a h) o (stray_fault s) ≡ []
        → option_map_or (λ a. positional_passes s.rules s.args_override_self a h) o false ≡ true
    to_positional None e = absurd (stray s.is_leaf _ _ _ e)
    to_positional (Some a) e = or_so (is_pending a h.pending && takes_several a) _ _ (λ f. settle_taken s.rules s.args_override_self h f) e

turn_taken : (s : Shape) (names : Names) (w : Walk) (word : Text) → turn_fault s names w word ≡ [] → turn_passes s names w word ≡ true
turn_taken s names w word e =
    let met = word_met s.rules names w.is_trailing w.waiting w.position word w.held in
    or_so (is_some w.stopped) _ _
    (λ f. let p = neither (word_fault s names w.is_trailing w.waiting word w.held) _ f in
    and_from _ _ (or_so w.is_trailing _ _ (λ g. other_taken s (subcommand_met names w.waiting word) word w.held g) p.0) (step_taken s w.position met.0 met.1 p.1)) e

walk_taken : (s : Shape) (names : Names) (w : Walk) (words : List Text) → walk_fault s names w words ≡ [] → walk_passes s names w words ≡ true
unfolding walk_fault walk_passes
walk_taken s names w [] e = refl
walk_taken s names w (word ∷ rest) e =
    let p = neither (turn_fault s names w word) _ e in
    and_from _ _ (turn_taken s names w word p.0) (walk_taken s names (walked s.rules names w word) rest p.1)

-- ---- after the walk

checked : (a b c : Bool) (k l m : ErrorKind) → cond a (k ∷ []) (cond b (l ∷ []) (cond c (m ∷ []) [])) ≡ [] → (a ≡ false) × (b ≡ false) × (c ≡ false)
checked true b c k l m e = absurd (some_kind _ _ e)
checked false true c k l m e = absurd (some_kind _ _ e)
checked false false c k l m e = (refl, refl, not_so c m [] e)

all_given : (rows : List Row) (xs : List Rule) → list_any (λ a. a.required && not (is_given a.id rows)) xs ≡ false → list_all (λ a. not a.required || is_given a.id rows) xs ≡ true
all_given rows [] e = refl
all_given rows (a ∷ xs) e = let p = or_parts _ _ e in and_from _ _ (one a.required (is_given a.id rows) p.0) (all_given rows xs p.1)
  where
    one : (x y : Bool) → (x && not y) ≡ false → (not x || y) ≡ true
    one true true e = refl
    one true false e = sym e
    one false y e = refl

valid_taken : (s : Shape) (rows : List Row) → list_all (λ a. a.is_free) s.rules ≡ true → check_fault s rows false ≡ [] → is_valid s rows false ≡ true
valid_taken s rows free e =
    let p = checked (s.arg_required_else_help && not (list_any (λ (r : Row). explicit_source r.source) rows)) s.subcommand_required _ _ _ _ e in
    and_from _ _ (helped s.arg_required_else_help _ p.0) (and_from _ _ (needed s.subcommand_required p.1) (and_from _ _ free (required s.subcommand_negates_reqs _ _ (λ f. all_given rows s.rules f) p.2)))
  where
    helped : (x y : Bool) → (x && not y) ≡ false → (not x || (false || y)) ≡ true
    helped true true e = refl
    helped true false e = sym e
    helped false y e = refl

    needed : (x : Bool) → x ≡ false → (not x || false) ≡ true
    needed true e = sym e
    needed false e = refl

    required : (n some all : Bool) → (some ≡ false → all ≡ true) → (not (n && false) && some) ≡ false → ((n && false) || all) ≡ true
    required true some all h e = h e
    required false some all h e = h e

level_taken : (s : Shape) (h : Held) (words : List Text) → list_all default_passes s.rules ≡ true → list_all (λ a. a.is_free) s.rules ≡ true → level_fault s [] h words false [] ≡ []
    → level_passes s [] h words false ≡ true
level_taken s h words defaults free e =
    let end = (walk s.rules [] h words).held in
    let p = neither (walk_fault s [] (walk_from h) words) _ e in
    let q = neither (settle_fault s.rules s.args_override_self end) _ p.1 in
    let r = neither _ (check_fault s (finished s.rules end) false) q.1 in
    and_from _ _ (walk_taken s [] (walk_from h) words p.0)
    (and_from _ _ (settle_taken s.rules s.args_override_self end q.0) (and_from _ _ defaults (valid_taken s (finished s.rules end) free r.1)))

-- of a command without subcommands, whose arguments have no rule on one another, and pass by their defaults
pub taken : (a : App) (words : List Text) → is_simple a ≡ true → (built a).subs ≡ [] → list_all default_passes (built a).top.rules ≡ true
    → list_all (λ r. r.is_free) (built a).top.rules ≡ true → fault_of a words ≡ [] → takes a words ≡ true
taken a words simple subs defaults free e =
    let ws = argument_words a words in
    and_from _ _ simple (leaf_takes (built a) nothing_held ws subs (level_taken (built a).top nothing_held ws defaults free (sym (leaf_fault (built a) nothing_held ws subs) ∙ e)))
