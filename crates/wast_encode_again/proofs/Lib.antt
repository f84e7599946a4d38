mod Again
mod FormedAgain
mod Tested
