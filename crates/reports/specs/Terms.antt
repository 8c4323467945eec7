-- The words of JSON-LD and of EARL 1.0 that stand in a report, and the names of the desk's own.
use Rattle.std.specs.Prelude.{ℕ, List, ◌++◌, codes, decimal}
use Rattle.reports.specs.declared.term.Term.{Term}
use Rattle.reports.specs.declared.term.Term.TheVariants.{AtId, AtType, AtContext, AtGraph, Earl, Namespace, Assertion, AssertedBy, Desk, Software, Mode, Automatic, Manual, SemiAuto, Result, TestResult, Info, NoTarget, Outcome, Passed, Failed, CantTell, Inapplicable, Pointer, Subject, TestSubject, Test, TestCase}

unfoldable pub text_of : Term → List ℕ
text_of AtId = codes "@id"
text_of AtType = codes "@type"
text_of AtContext = codes "@context"
text_of AtGraph = codes "@graph"
text_of Earl = codes "earl"
text_of Namespace = codes "http://www.w3.org/ns/earl#"
text_of Assertion = codes "earl:Assertion"
text_of AssertedBy = codes "earl:assertedBy"
text_of Desk = codes "urn:act-desk:software"
text_of Software = codes "earl:Software"
text_of Mode = codes "earl:mode"
text_of Automatic = codes "earl:automatic"
text_of Manual = codes "earl:manual"
text_of SemiAuto = codes "earl:semiAuto"
text_of Result = codes "earl:result"
text_of TestResult = codes "earl:TestResult"
text_of Info = codes "earl:info"
text_of NoTarget = codes "inapplicable"
text_of Outcome = codes "earl:outcome"
text_of Passed = codes "earl:passed"
text_of Failed = codes "earl:failed"
text_of CantTell = codes "earl:cantTell"
text_of Inapplicable = codes "earl:inapplicable"
text_of Pointer = codes "earl:pointer"
text_of Subject = codes "earl:subject"
text_of TestSubject = codes "earl:TestSubject"
text_of Test = codes "earl:test"
text_of TestCase = codes "earl:TestCase"

-- what a rule, a user and a node are named after: these, and the rule's id, the user's name, the node's number
unfoldable pub rule_name : List ℕ → List ℕ
rule_name id = codes "urn:act-rule:" ++ id

unfoldable pub user_name : List ℕ → List ℕ
user_name hand = codes "urn:act-desk:user:" ++ hand

unfoldable pub node_name : ℕ → List ℕ
node_name n = codes "node " ++ decimal n
