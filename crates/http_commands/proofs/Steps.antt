-- What holds of what is read part by part.
use Rattle.std.proofs.Common.{ℕ, Option, Some, None, Result, Ok, Err}
use Rattle.std.specs.Prelude.{IfSome, IfOk, option_map, option_and_then}
use Rattle.http_routes.specs.declared.part.Part.{Part}
use Rattle.http_routes.specs.declared.fault.RequestFault.{RequestFault}
use Rattle.http_commands.specs.Shapes.{◌>>=◌, in_shape}

-- Q of this step, and P of the next after any that Q holds of
pub after : {A B : Type 0} (Q : A → Type 0) (P : B → Type 0) (r : Result A RequestFault) (next : A → Result B RequestFault)
    → IfOk r Q → ((x : A) → Q x → IfOk (next x) P) → IfOk (r >>= next) P
after Q P (Ok x) next this that = that x this
after Q P (Err fault) next this that = tt

-- nothing need hold of this step
pub past : {A B : Type 0} (P : B → Type 0) (r : Result A RequestFault) (next : A → Result B RequestFault) → ((x : A) → IfOk (next x) P) → IfOk (r >>= next) P
past P (Ok x) next that = that x
past P (Err fault) next that = tt

-- what holds of a part's meaning holds of the part in shape
pub shaped : {A : Type 0} (P : A → Type 0) (part : Part) (place : ℕ) (o : Option A) → IfSome o P → IfOk (in_shape part place o) P
shaped P part place (Some x) h = h
shaped P part place None h = tt

-- the same of options
pub after_some : {A B : Type 0} (Q : A → Type 0) (P : B → Type 0) (o : Option A) (next : A → Option B)
    → IfSome o Q → ((x : A) → Q x → IfSome (next x) P) → IfSome (option_and_then next o) P
after_some Q P (Some x) next this that = that x this
after_some Q P None next this that = tt

pub past_some : {A B : Type 0} (P : B → Type 0) (o : Option A) (next : A → Option B) → ((x : A) → IfSome (next x) P) → IfSome (option_and_then next o) P
past_some P (Some x) next that = that x
past_some P None next that = tt

pub mapped : {A B : Type 0} (P : B → Type 0) (o : Option A) (f : A → B) → ((x : A) → P (f x)) → IfSome (option_map f o) P
mapped P (Some x) f h = h x
mapped P None f h = tt

pub both_some : {A : Type 0} (P Q R : A → Type 0) (o : Option A) → IfSome o P → IfSome o Q → ((x : A) → P x → Q x → R x) → IfSome o R
both_some P Q R (Some x) p q h = h x p q
both_some P Q R None p q h = tt
