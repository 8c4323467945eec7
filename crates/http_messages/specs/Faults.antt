-- The refusals of a head: their numbers and the status codes of their replies.
use Rattle.std.specs.Prelude.{ℕ}
use Rattle.http_messages.specs.declared.fault.HeadFault.{HeadFault}
use Rattle.http_messages.specs.declared.fault.HeadFault.TheVariants.{BadHead, HeadTooLarge, TransferEncoding, LengthRequired, BodyTooLarge}

abbrev pub number : HeadFault → ℕ
number BadHead = 1
number HeadTooLarge = 2
number TransferEncoding = 3
number LengthRequired = 4
number BodyTooLarge = 5

abbrev pub status : HeadFault → ℕ
status BadHead = 400
status HeadTooLarge = 431
status TransferEncoding = 501
status LengthRequired = 411
status BodyTooLarge = 413
