-- What httparse's answers say of a head.
use Rattle.std.proofs.Common.{◌≡◌, ℕ, List, [], map, take, Option, Some, None, sym, ap, ◌∙◌, refl}
use Rattle.std.proofs.lemmas.Simd.{map-map}
use Rattle.httparse.specs.Grammar.{RequestHead}
use Rattle.httparse.specs.Spans.{IsRequestAt, span_bytes, header_bytes, name_and_value}
use Rattle.httparse.specs.declared.spans.HeaderSpan.{HeaderSpan}
use Rattle.httparse.specs.declared.spans.RequestSpans.{RequestSpans}
use Rattle.httparse.proofs.GrammarLemmas.{request_unique}
use Rattle.http_messages.specs.declared.head.Version.{Version}
use Rattle.http_messages.specs.declared.head.Field.{Field}
use Rattle.http_messages.specs.declared.head.Head.{Head}
use Rattle.http_messages.specs.Heads.{HeadOf, version_of, seen_field, seen}
use Rattle.http_messages.specs.Parsing.{field_at}

paired : List ℕ × List ℕ → Field
paired p = record { name = p.0; value = p.1 }

same_fields : (block : List ℕ) (spans : List HeaderSpan) (h : RequestHead) → map (header_bytes block) spans ≡ map name_and_value h.fields → map (field_at block) spans ≡ map seen_field h.fields
unfolding paired
same_fields block spans h are = sym (map-map paired (header_bytes block) spans) ∙ ap (map paired) are ∙ map-map paired name_and_value h.fields

-- the parts at these places are those of the head
pub seen_at : (block : List ℕ) (fields : List HeaderSpan) (spans : RequestSpans) (h : RequestHead) (version : Version) (method target : List ℕ) (seen_fields : List Field) → IsRequestAt block fields spans h →
    version ≡ version_of spans.version → method ≡ span_bytes block spans.method → target ≡ span_bytes block spans.path → seen_fields ≡ map (field_at block) (take spans.headers fields) →
    record { version = version; method = method; target = target; fields = seen_fields } ≡ seen h
unfolding seen
seen_at block fields spans h version method target seen_fields at v m t fs =
    let versions = v ∙ ap version_of at.version in
    let methods = m ∙ at.method in
    let targets = t ∙ at.path in
    let all = fs ∙ same_fields block (take spans.headers fields) h at.fields in
    λ i. record { version = versions i; method = methods i; target = targets i; fields = all i }

-- a block is one head at most
pub head_unique : (block : List ℕ) (o p : Option Head) → HeadOf block o → HeadOf block p → o ≡ p
head_unique block None None x y = refl
head_unique block None (Some head) x y = absurd (x y.0 y.1)
head_unique block (Some head) None x y = absurd (y x.0 x.1)
head_unique block (Some head) (Some other) x y =
    ap Some (x.2 ∙ ap seen (request_unique block x.0 y.0 [] [] x.1.reads y.1.reads).0 ∙ sym y.2)
